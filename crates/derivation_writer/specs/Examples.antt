-- Examples of what is written down.
use Rattle.std.specs.Prelude.{[], ◌∷◌, map, Ok}
use Rattle.derivation_writer.specs.Writing.{IsDerived}
use Rattle.module_derivations.specs.declared.rule.TheConstants as rule
use Rattle.module_derivations.specs.declared.start.TheConstants as start
use Rattle.module_grammar.specs.AtPlaces.{width_at}
use Rattle.module_grammar.specs.Symbols as symbol
use Rattle.module_grammar.specs.Symbols.{kind_of}

pub record NumbersAreWritten : Type 0 where
  -- i8*
  pub type :
      IsDerived start.TYPE (map kind_of (symbol.Width (width_at 8 0 2) ∷ symbol.Star 2 ∷ []))
      (Ok (rule.INT_TYPE ∷ 2147483648 ∷ rule.STARS ∷ 2147483649 ∷ rule.STARS_END ∷ []))
  -- attributes #0 = {}
  pub items :
      IsDerived start.MODULE (map kind_of (symbol.attributes ∷ symbol.group ∷ symbol.equals ∷ symbol.Brace 16 ∷ symbol.close_brace ∷ []))
      (Ok (rule.ITEMS ∷ rule.ATTRIBUTES ∷ 2147483651 ∷ rule.BALANCED_END ∷ rule.ITEMS_END ∷ []))
