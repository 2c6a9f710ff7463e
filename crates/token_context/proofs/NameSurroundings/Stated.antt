-- What is told is what stands around names.
use Rattle.std.proofs.Common.{◌≡◌, ◌≤◌, ℕ, List, ◌∷◌, ◌++◌, length, Option, None, Some, refl, ap, sym, ◌∙◌, subst, arith, inl, inr}
use Rattle.std.proofs.lemmas.Bool.{ltb-true}
use Rattle.std.specs.Option.{option_map}
use Rattle.ir_lexer.specs.declared.token.Token.{Token}
use Rattle.ir_types.specs.declared.names.Name.{Name}
use Rattle.module_derivations.specs.Empty.{made}
use Rattle.module_grammar.proofs.ModulesMade.{called_text, declared_text}
use Rattle.module_grammar.proofs.OneTree.{called, declared}
use Rattle.module_grammar.specs.Balanced.{IsBalanced}
use Rattle.module_grammar.specs.Sorts.{Called, DeclaredParams}
use Rattle.module_grammar.specs.Symbols.{Symbol, Debug, Global, close_paren, kind_of, open_paren, unnamed_addr, void}
use Rattle.module_grammar.specs.Texts.{IsWritten}
use Rattle.module_grammar.specs.declared.functions.DeclaredText.{DeclaredText}
use Rattle.module_grammar.specs.declared.places.Placed.{Placed}
use Rattle.module_grammar.specs.declared.types.CalledText.{CalledText}
use Rattle.module_spelling.specs.Spells.{StatesParams, StatesTypes}
use Rattle.token_context.proofs.NameSurroundings.Pairs.{inside_text}
use Rattle.token_context.proofs.NameSurroundings.Parens.{as_many_symbols}
use Rattle.token_context.proofs.NameSurroundings.Plain.{plain_text}
use Rattle.token_context.specs.NameSurroundings.Between.{Between, IsText, seen}
use Rattle.token_context.specs.NameSurroundings.Held.{AreParamsTold, AreTypesTold, params_or_none, types_or_none}
use Rattle.token_context.specs.NameSurroundings.Told.{front_of, params_in, types_in}
use Rattle.token_context.specs.declared.name_surroundings.around.Marked.{Marked}
use Rattle.token_context.proofs.SideBySide.{parens_between}
use Rattle.token_context.specs.SideBySide.{DoParensMatter, HaveParens}

-- ---- what is told, as a walk over its marks sees it

pub types_seen : (o : Option Marked) → types_or_none (option_map types_in o) ≡ (made (front_of o)).called
types_seen None = refl
types_seen (Some m) = refl

pub params_seen : (o : Option Marked) → params_or_none (option_map params_in o) ≡ (made (front_of o)).declared_params
params_seen None = refl
params_seen (Some m) = refl

module _ (symbols : List Symbol) where
  -- ---- types before names

  pub one_types :
      (told : ℕ → Option CalledText) → AreTypesTold symbols (length symbols) told → (x : Placed Name) (c : CalledText) → StatesTypes symbols x c
      → types_or_none (told x.start) ≡ c
  one_types told are x c s =
      let b : Between void (Global x) symbols s.types (length s.before) =
      record { before = s.before; behind = s.behind; same = s.same; index = refl; balanced = (plain_text 38 (ltb-true 38 92 refl) refl called_text c s.types s.written).balanced } in
      let t = are x s.types (length s.before) b (inside_text void (Global x) symbols s.types (length s.before) b) in
      ap types_or_none t.1 ∙ called t.0 c s.types t.2 s.written

  pub types_stated :
      (told : ℕ → Option CalledText) → AreTypesTold symbols (length symbols) told → (x : Placed Name) (before inside behind : List Symbol)
      → symbols ≡ before ++ (void ∷ open_paren ∷ (inside ++ (close_paren ∷ Global x ∷ behind))) → IsBalanced inside
      → StatesTypes symbols x (types_or_none (told x.start))
  types_stated told are x before inside behind e balanced =
      let b : Between void (Global x) symbols inside (length before) = record { before = before; behind = behind; same = e; index = refl; balanced = balanced } in
      let t = are x inside (length before) b (inside_text void (Global x) symbols inside (length before) b) in
      record { before = before; types = inside; behind = behind; same = e; written = subst (λ o. IsWritten Called (types_or_none o) inside) (sym t.1) t.2 }

  -- ---- parameters behind names of debugging

  pub one_params :
      (told : ℕ → Option DeclaredText) → AreParamsTold symbols (length symbols) told → (x : Placed Name) (c : DeclaredText) → StatesParams symbols x c
      → params_or_none (told x.start) ≡ c
  one_params told are x c s =
      let b : Between (Debug x) unnamed_addr symbols s.params (length s.before) =
      record { before = s.before; behind = s.behind; same = s.same; index = refl; balanced = (plain_text 7 (ltb-true 7 92 refl) refl declared_text c s.params s.written).balanced } in
      let t = are x s.params (length s.before) b (inside_text (Debug x) unnamed_addr symbols s.params (length s.before) b) in
      ap params_or_none t.1 ∙ declared t.0 c s.params t.2 s.written

  pub params_stated :
      (told : ℕ → Option DeclaredText) → AreParamsTold symbols (length symbols) told → (x : Placed Name) (before inside behind : List Symbol)
      → symbols ≡ before ++ (Debug x ∷ open_paren ∷ (inside ++ (close_paren ∷ unnamed_addr ∷ behind))) → IsBalanced inside
      → StatesParams symbols x (params_or_none (told x.start))
  params_stated told are x before inside behind e balanced =
      let b : Between (Debug x) unnamed_addr symbols inside (length before) = record { before = before; behind = behind; same = e; index = refl; balanced = balanced } in
      let t = are x inside (length before) b (inside_text (Debug x) unnamed_addr symbols inside (length before) b) in
      record { before = before; params = inside; behind = behind; same = e; written = subst (λ o. IsWritten DeclaredParams (params_or_none o) inside) (sym t.1) t.2 }

  -- ---- before the first token, and behind the last one

  pub none_before : (told : ℕ → Option CalledText) → AreTypesTold symbols 0 told
  none_before told x inside at b less = absurd (omega (arith, less))

  pub none_behind : (told : ℕ → Option DeclaredText) → AreParamsTold symbols 0 told
  none_behind told x inside at b less = absurd (omega (arith, less))

pub all_types :
    (text : List ℕ) (tokens : List Token) (kinds : List ℕ) → IsText text tokens kinds → (place : ℕ) (told : ℕ → Option CalledText) → length kinds ≤ place
    → AreTypesTold (seen text tokens kinds) place told → AreTypesTold (seen text tokens kinds) (length (seen text tokens kinds)) told
all_types text tokens kinds is place told past h x inside at b less =
    let same = as_many_symbols text tokens kinds is in
    h x inside at b (omega (arith, same, past, less))

pub all_params :
    (text : List ℕ) (tokens : List Token) (kinds : List ℕ) → IsText text tokens kinds → (place : ℕ) (told : ℕ → Option DeclaredText) → length kinds ≤ place
    → AreParamsTold (seen text tokens kinds) place told → AreParamsTold (seen text tokens kinds) (length (seen text tokens kinds)) told
all_params text tokens kinds is place told past h x inside at b less =
    let same = as_many_symbols text tokens kinds is in
    h x inside at b (omega (arith, same, past, less))

-- ---- where no parentheses matter nothing is told

pub no_types_stand :
    (text : List ℕ) (tokens : List Token) (kinds : List ℕ) → IsText text tokens kinds → (DoParensMatter kinds → ⊥) → (told : ℕ → Option CalledText)
    → AreTypesTold (seen text tokens kinds) (length (seen text tokens kinds)) told
no_types_stand text tokens kinds is none told x inside at b less =
    absurd (none (inl (subst (λ ks. HaveParens (kind_of void) 1 ks) is.are_kinds.1 (parens_between void (Global x) b.before inside b.behind (seen text tokens kinds) b.same))))

pub no_params_stand :
    (text : List ℕ) (tokens : List Token) (kinds : List ℕ) → IsText text tokens kinds → (DoParensMatter kinds → ⊥) → (told : ℕ → Option DeclaredText)
    → AreParamsTold (seen text tokens kinds) (length (seen text tokens kinds)) told
no_params_stand text tokens kinds is none told x inside at b less =
    absurd (none (inr (subst (λ ks. HaveParens 2 (kind_of unnamed_addr) ks) is.are_kinds.1 (parens_between (Debug x) unnamed_addr b.before inside b.behind (seen text tokens kinds) b.same))))
