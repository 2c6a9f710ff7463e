-- What a reader of tokens answers, of the text.
use Rattle.std.proofs.Common.{◌≡◌, ℕ, Bool, true, false, cond, List, length, map, Result, Ok, Err, refl, sym, subst}
use Rattle.std.specs.Prelude.{◌↔◌}
use Rattle.std.specs.List.{Contains}
use Rattle.ir_core.specs.declared.limits.Limit.TheVariants as limit
use Rattle.ir_lexer.specs.Cut.{Placed as PlacedToken}
use Rattle.ir_lexer.specs.declared.token.Token.{Token}
use Rattle.ir_types.specs.declared.names.Name.{Name}
use Rattle.module_grammar.specs.Sorts.{Holds, Module}
use Rattle.module_grammar.specs.Spelled.{placed_in, symbol_in}
use Rattle.module_grammar.specs.Symbols.{Symbol, kind_of}
use Rattle.module_grammar.specs.declared.functions.DeclaredText.{DeclaredText}
use Rattle.module_grammar.specs.declared.items.ModuleText.{ModuleText}
use Rattle.module_grammar.specs.declared.places.Placed.{Placed}
use Rattle.module_grammar.specs.declared.types.CalledText.{CalledText}
use Rattle.module_grammar.specs.declared.words.Language.TheVariants.{Ir}
use Rattle.ir_reader.proofs.Deep.{among, none_among}
use Rattle.ir_reader.proofs.Lexed.{own_are}
use Rattle.ir_reader.proofs.Told.{deep_told, limit_told, stuck_told}
use Rattle.ir_reader.specs.Read.{IsTreeOf, Surround}
use Rattle.ir_reader.specs.Told.{is_deep, of_grammar, of_unread}
use Rattle.module_spelling.specs.Context.{StandFor, all_seen}
use Rattle.module_spelling.specs.Faults.{IsDeepAt, IsStuck}
use Rattle.module_texts.specs.Texts.{HasSymbols, HasTokens, IsTextFault, own_symbols}
use Rattle.derivation_writer.specs.ReadMarks.Reading.{IsReading}
use Rattle.derivation_writer.specs.declared.read_marks.unread.Unread.{Unread}
use Rattle.derivation_writer.specs.declared.read_marks.unread.Unread.TheVariants as unread
use Rattle.ir_lexer.specs.declared.fault.TextFault.TheVariants as fault

module _ (bytes : List ℕ) (small : List Token) where
  abbrev pub tokens : List PlacedToken
  tokens = map (placed_in bytes) small

  abbrev pub own : List Symbol
  own = map (symbol_in Ir bytes) small

  pub stand_in : (symbols : List Symbol) → HasTokens bytes tokens → StandFor own symbols → HasSymbols bytes tokens symbols
  stand_in symbols has stand = (has, subst (λ o. StandFor o symbols) (own_are bytes small) stand)

  module _ (symbols : List Symbol) (has : HasSymbols bytes tokens symbols) (deep : List ℕ) (are : (k : ℕ) → Contains deep k ↔ IsDeepAt own k) where
    deep_at : (k : ℕ) → Contains deep k → IsDeepAt (own_symbols bytes tokens) k
    deep_at k among = subst (λ o. IsDeepAt o k) (own_are bytes small) ((are k).0 among)

    not_deep : (k : ℕ) → (Contains deep k → ⊥) → IsDeepAt (own_symbols bytes tokens) k → ⊥
    not_deep k none at = none ((are k).1 (subst (λ o. IsDeepAt o k) (sym (own_are bytes small)) at))

    stuck_by : (k : ℕ) → IsStuck 0 (map kind_of symbols) k → (told : Bool) → is_deep deep k ≡ told
        → IsTextFault bytes (cond told (fault.Limit limit.Depth) (of_grammar tokens (length bytes) k))
    stuck_by k stuck true e = deep_told bytes tokens symbols has k stuck (deep_at k (among deep k e))
    stuck_by k stuck false e = stuck_told bytes tokens symbols has k (stuck, not_deep k (none_among deep k e))

    -- why tokens are no tree
    pub unread_told : (why : Unread) → IsReading Module 0 symbols (Err why) → IsTextFault bytes (of_unread tokens (length bytes) deep why)
    unread_told (unread.Stuck k) stuck = stuck_by k stuck (is_deep deep k) refl
    unread_told (unread.Limit l) passes = limit_told bytes tokens symbols has l passes

-- the answer for the tokens by their kinds, where these are held and lent
module _ (bytes : List ℕ) (small : List Token) (has : HasTokens bytes (tokens bytes small)) (held lent : List ℕ) (same : lent ≡ held) (stand : StandFor (own bytes small) (all_seen (own bytes small) held)) where
  abbrev pub symbols_of : List Symbol
  symbols_of = all_seen (own bytes small) lent

  pub symbols_stand : HasSymbols bytes (tokens bytes small) symbols_of
  symbols_stand = stand_in bytes small symbols_of has (subst (λ ks. StandFor (own bytes small) (all_seen (own bytes small) ks)) (sym same) stand)

  module _ (read : Result (Holds Module) Unread) (reading : IsReading Module 0 symbols_of read) where
    pub tree_by : (tree : ModuleText) (stated : Placed Name → CalledText) (params : Placed Name → DeclaredText) → read ≡ Ok tree → Surround symbols_of stated params
        → IsTreeOf bytes tree stated params
    tree_by tree stated params is around = record {
      tokens = tokens bytes small;
      symbols = symbols_of;
      has = symbols_stand;
      read = subst (IsReading Module 0 symbols_of) is reading;
      around = around;
    }

    pub fault_by : (deep : List ℕ) → ((k : ℕ) → Contains deep k ↔ IsDeepAt (own bytes small) k) → (why : Unread) → read ≡ Err why
        → IsTextFault bytes (of_unread (tokens bytes small) (length bytes) deep why)
    fault_by deep are why is = unread_told bytes small symbols_of symbols_stand deep are why (subst (IsReading Module 0 symbols_of) is reading)
