-- What stands between the parentheses around a name is one at each place.
use Rattle.std.proofs.Common.{◌≡◌, ℕ, List, [], ◌∷◌, ◌++◌, map, refl, ap, sym, ◌∙◌, subst, append_assoc}
use Rattle.std.specs.List.{AllByRecursion}
use Rattle.ir_lexer.specs.Cut.{Placed as PlacedToken}
use Rattle.ir_types.specs.declared.names.Name.{Name}
use Rattle.module_grammar.specs.Laws.{WritesOneTree}
use Rattle.module_grammar.specs.Sorts.{Called, DeclaredParams}
use Rattle.module_grammar.specs.Spelled.{symbol}
use Rattle.module_grammar.specs.Symbols.{Symbol, Debug, Global, close_paren, open_paren, unnamed_addr, void}
use Rattle.module_grammar.specs.Texts.{IsWritten}
use Rattle.module_grammar.specs.declared.functions.DeclaredText.{DeclaredText}
use Rattle.module_grammar.specs.declared.places.Placed.{Placed}
use Rattle.module_grammar.specs.declared.types.CalledText.{CalledText}
use Rattle.module_grammar.specs.declared.words.Language.TheVariants.{Ir}
use Rattle.module_spelling.specs.Context.{StandFor}
use Rattle.module_spelling.specs.Spells.{StatesParams, StatesTypes}
use Rattle.module_texts.proofs.Lists.{all_joined, first_same, front_same, last_same}
use Rattle.module_texts.proofs.Plain.{InParams, InTypes, called_tokens, declared_tokens, no_addr, no_paren}
use Rattle.module_texts.proofs.Starts.{AreFrom}
use Rattle.module_texts.proofs.Stood.{one_place}

-- what stands in front of the name, and the name behind it
abbrev front : List Symbol → List Symbol → List Symbol
front before types = (before ++ (void ∷ [])) ++ (open_paren ∷ (types ++ (close_paren ∷ [])))

fronted : (before types behind : List Symbol) (s : Symbol) → before ++ (void ∷ open_paren ∷ (types ++ (close_paren ∷ s ∷ behind))) ≡ front before types ++ (s ∷ behind)
fronted before types behind s =
    ap (λ l. before ++ (void ∷ open_paren ∷ l)) (sym (append_assoc types (close_paren ∷ []) (s ∷ behind)))
    ∙ sym (append_assoc before (void ∷ []) (open_paren ∷ ((types ++ (close_paren ∷ [])) ++ (s ∷ behind))))
    ∙ sym (append_assoc (before ++ (void ∷ [])) (open_paren ∷ (types ++ (close_paren ∷ []))) (s ∷ behind))

-- behind tokens of a text
module _ (text : List ℕ) (tokens : List PlacedToken) (symbols : List Symbol) (from : AreFrom 0 tokens) (stand : StandFor (map (symbol Ir text) tokens) symbols) where
  closed_types : (x : Placed Name) (c : CalledText) (s : StatesTypes symbols x c) → AllByRecursion InTypes (s.types ++ (close_paren ∷ []))
  closed_types x c s = all_joined InTypes s.types (close_paren ∷ []) (called_tokens c s.types s.written) (((refl, refl), refl), tt)

  pub types_one : WritesOneTree Called → (x y : Placed Name) (c d : CalledText) → StatesTypes symbols x c → StatesTypes symbols y d → x.start ≡ y.start → c ≡ d
  types_one once x y c d s t at =
      let fronts : front s.before s.types ≡ front t.before t.types =
      (one_place text 0 [] tokens symbols from stand (front s.before s.types) s.behind (front t.before t.types) t.behind (Global x) (Global y) y.start
      (s.same ∙ fronted s.before s.types s.behind (Global x)) (t.same ∙ fronted t.before t.types t.behind (Global y)) at refl).0 in
      let closed : s.types ++ (close_paren ∷ []) ≡ t.types ++ (close_paren ∷ []) =
      last_same InTypes (s.before ++ (void ∷ [])) (t.before ++ (void ∷ [])) (s.types ++ (close_paren ∷ [])) (t.types ++ (close_paren ∷ [])) open_paren no_paren (closed_types x c s) (closed_types y d t) fronts in
      let same : s.types ≡ t.types = front_same s.types t.types close_paren closed in
      once c d t.types (subst (IsWritten Called c) same s.written) t.written

  closed_params : (x : Placed Name) (c : DeclaredText) (s : StatesParams symbols x c) → AllByRecursion InParams (s.params ++ (close_paren ∷ []))
  closed_params x c s = all_joined InParams s.params (close_paren ∷ []) (declared_tokens c s.params s.written) ((refl, refl), tt)

  pub params_one : WritesOneTree DeclaredParams → (x y : Placed Name) (c d : DeclaredText) → StatesParams symbols x c → StatesParams symbols y d → x.start ≡ y.start → c ≡ d
  params_one once x y c d s t at =
      let behind =
      (one_place text 0 [] tokens symbols from stand s.before (open_paren ∷ (s.params ++ (close_paren ∷ unnamed_addr ∷ s.behind))) t.before (open_paren ∷ (t.params ++ (close_paren ∷ unnamed_addr ∷ t.behind)))
      (Debug x) (Debug y) y.start s.same t.same at refl).1 in
      let rest : s.params ++ (close_paren ∷ unnamed_addr ∷ s.behind) ≡ t.params ++ (close_paren ∷ unnamed_addr ∷ t.behind) = cc in
      let parted : (s.params ++ (close_paren ∷ [])) ++ (unnamed_addr ∷ s.behind) ≡ (t.params ++ (close_paren ∷ [])) ++ (unnamed_addr ∷ t.behind) =
      append_assoc s.params (close_paren ∷ []) (unnamed_addr ∷ s.behind) ∙ rest ∙ sym (append_assoc t.params (close_paren ∷ []) (unnamed_addr ∷ t.behind)) in
      let closed : s.params ++ (close_paren ∷ []) ≡ t.params ++ (close_paren ∷ []) =
      first_same InParams (s.params ++ (close_paren ∷ [])) (t.params ++ (close_paren ∷ [])) s.behind t.behind unnamed_addr no_addr (closed_params x c s) (closed_params y d t) parted in
      let same : s.params ≡ t.params = front_same s.params t.params close_paren closed in
      once c d t.params (subst (IsWritten DeclaredParams c) same s.written) t.written
