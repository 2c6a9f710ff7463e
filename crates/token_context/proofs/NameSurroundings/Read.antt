-- What stands between parentheses is read as one thing.
use Rattle.std.proofs.Common.{◌≡◌, ℕ, suc, ◌+◌, ◌-◌, true, List, [], ◌∷◌, map, Result, Ok, Err, refl, ap, ◌∙◌, subst, arith}
use Rattle.std.specs.List.{slice_range}
use Rattle.ir_lexer.specs.declared.token.Token.{Token}
use Rattle.ir_types.specs.declared.names.Name.{Name}
use Rattle.module_grammar.specs.Sorts.{Called, DeclaredParams, Holds, Sort, sort}
use Rattle.module_grammar.specs.Spelled.{symbol_in}
use Rattle.module_grammar.specs.Symbols.{Symbol, Debug, Global, foreign, kind_of, unnamed_addr, void}
use Rattle.module_grammar.specs.Texts.{IsWritten}
use Rattle.module_grammar.specs.Tokens.{token_grammar}
use Rattle.module_grammar.specs.declared.places.Placed.{Placed}
use Rattle.module_grammar.specs.declared.words.Language.TheVariants.{Ir}
use Rattle.module_spelling.specs.Context.{AreBehind, IsWhole}
use Rattle.token_context.proofs.NameSurroundings.Parens.{are_params, are_types, inside_seen, own_between}
use Rattle.token_context.proofs.NameSurroundings.Own.{not_foreign, same_own}
use Rattle.token_context.proofs.NameSurroundings.Plain.{plain_forest}
use Rattle.token_context.specs.NameSurroundings.Between.{Between, IsText, end_of, seen}
use Rattle.derivation_writer.proofs.ReadMarks.Limits.{not_limited}
use Rattle.derivation_writer.proofs.ReadMarks.Whole.{called_starts, declared_starts}
use Rattle.derivation_writer.specs.ReadMarks.Reading.{IsReading}
use Rattle.derivation_writer.specs.ReadMarks.Runs.{IsStart}
use Rattle.derivation_writer.specs.declared.read_marks.unread.Unread.{Unread}
use Rattle.derivation_writer.specs.declared.read_marks.unread.Unread.TheVariants as unread
use Rattle.predictive.proofs.Faults.{none_in_text}
use Rattle.predictive.specs.Grammar.{yield}
use Rattle.predictive.specs.declared.symbol.Symbol.TheVariants.{Non}
use Rattle.token_context.proofs.Lineless.{lineless}

-- a thing is read, and is written there
abbrev pub IsReadThing : (s : Sort) → List Symbol → Result (Holds s) Unread → Type 0
IsReadThing s inside r = (c : Holds s) × (r ≡ Ok c) × IsWritten s c inside

-- what is a thing by itself can't be unread
whole :
    (n : ℕ) → IsStart n → lineless n ≡ true → (before own inside : List Symbol) → AreBehind before own inside → ((IsWhole (sort n) n own → ⊥) → ⊥)
    → (r : Result (Holds (sort n)) Unread) → IsReading (sort n) n inside r → IsReadThing (sort n) inside r
whole n start plain before own inside stand some (Ok c) read = (c, refl, read.written)
whole n start plain before own inside stand some (Err (unread.Stuck k)) read =
    absurd (some (λ w.
    let same : yield w.derivation ≡ map kind_of inside = w.same ∙ ap (map kind_of) (same_own before own inside (plain_forest n plain w.derivation w.formed own w.same).no_names stand) in
    none_in_text token_grammar (Non n ∷ []) (map kind_of inside) k (w.derivation, w.formed, same) read.0))
whole n start plain before own inside stand some (Err (unread.Limit l)) read =
    absurd (some (λ w.
    let same : yield w.derivation ≡ map kind_of inside = w.same ∙ ap (map kind_of) (same_own before own inside (plain_forest n plain w.derivation w.formed own w.same).no_names stand) in
    not_limited n start (map kind_of inside) w.derivation w.formed same w.within read.0 l read.1))

void_stands : void ≡ foreign → ⊥
void_stands = not_foreign void (λ e. absurd (omega (arith, e)))

addr_stands : unnamed_addr ≡ foreign → ⊥
addr_stands = not_foreign unnamed_addr (λ e. absurd (omega (arith, e)))

module _ (text : List ℕ) (tokens : List Token) (kinds : List ℕ) (is : IsText text tokens kinds) where
  abbrev own : List Symbol
  own = map (symbol_in Ir text) tokens

  abbrev symbols : List Symbol
  symbols = seen text tokens kinds

  abbrev part : ℕ → ℕ → List Symbol
  part from to = seen text (slice_range tokens (from + 1) (to - 1)) (slice_range kinds (from + 1) (to - 1))

  pub types_read :
      (x : Placed Name) (inside : List Symbol) (at : ℕ) → Between void (Global x) (seen text tokens kinds) inside at → (from to : ℕ) → from ≡ suc at → to ≡ end_of at inside
      → (r : Result (Holds Called) Unread)
      → IsReading Called 38 (seen text (slice_range tokens (from + 1) (to - 1)) (slice_range kinds (from + 1) (to - 1))) r → IsReadThing Called inside r
  types_read x inside at b from to p q r read =
      let o = own_between void (Global x) symbols inside own at b void_stands (λ e. cc) is.stand in
      whole 38 called_starts refl o.before o.own_inside inside o.stand (are_types x own inside at o) r
      (subst (λ l. IsReading Called 38 l r) (inside_seen text tokens kinds is void (Global x) inside at b o from to p q) read)

  pub params_read :
      (x : Placed Name) (inside : List Symbol) (at : ℕ) → Between (Debug x) unnamed_addr (seen text tokens kinds) inside at → (from to : ℕ) → from ≡ suc at → to ≡ end_of at inside
      → (r : Result (Holds DeclaredParams) Unread)
      → IsReading DeclaredParams 7 (seen text (slice_range tokens (from + 1) (to - 1)) (slice_range kinds (from + 1) (to - 1))) r → IsReadThing DeclaredParams inside r
  params_read x inside at b from to p q r read =
      let o = own_between (Debug x) unnamed_addr symbols inside own at b (λ e. cc) addr_stands is.stand in
      whole 7 declared_starts refl o.before o.own_inside inside o.stand (are_params x own inside at o) r
      (subst (λ l. IsReading DeclaredParams 7 l r) (inside_seen text tokens kinds is (Debug x) unnamed_addr inside at b o from to p q) read)
