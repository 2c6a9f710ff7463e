-- Examples of what tokens stand for behind others.
use Rattle.std.specs.Prelude.{List, [], ◌∷◌, ◌++◌}
use Rattle.module_grammar.specs.AtPlaces.{debug_at, width_at, x_at}
use Rattle.module_grammar.specs.Symbols.{Symbol, Debug, Global, Width, close_paren, foreign, open_paren, unnamed_addr, void}
use Rattle.module_spelling.specs.Context.{StandFor}

-- `call void (..) @x`, from `void` on
abbrev pub stating : List Symbol → Symbol → List Symbol
stating inside name = void ∷ open_paren ∷ inside ++ (close_paren ∷ name ∷ [])

-- `@llvm.dbg.x(..) unnamed_addr`
abbrev pub declaring : List Symbol → Symbol → List Symbol
declaring inside word = Debug (debug_at 0 11) ∷ open_paren ∷ inside ++ (close_paren ∷ word ∷ [])

abbrev pub x : Symbol
x = Global (x_at 20 22)

abbrev pub i8 : Symbol
i8 = Width (width_at 8 13 15)

pub record NamesStandBehindTypes : Type 0 where
  -- `void (i8) @x`
  pub types : StandFor (stating (i8 ∷ []) x) (stating (i8 ∷ []) x)
  -- `void (float) @x`, where `float` is none of the grammar
  pub no_types : StandFor (stating (foreign ∷ []) x) (stating (foreign ∷ []) foreign)
  -- `void () @x`
  pub none : StandFor (stating [] x) (stating [] x)
  -- `(float) @x` behind nothing
  pub behind_nothing : StandFor (open_paren ∷ foreign ∷ close_paren ∷ x ∷ []) (open_paren ∷ foreign ∷ close_paren ∷ x ∷ [])
  -- `@llvm.dbg.x(float) unnamed_addr`
  pub no_params : StandFor (declaring (foreign ∷ []) unnamed_addr) (declaring (foreign ∷ []) foreign)
  -- `@llvm.dbg.x(i8) unnamed_addr`
  pub params : StandFor (declaring (i8 ∷ []) unnamed_addr) (declaring (i8 ∷ []) unnamed_addr)
