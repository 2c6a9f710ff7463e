-- What stands around names whose tree doesn't keep it is told by functions.
use Rattle.std.proofs.Common.{◌≡◌, ◌<◌, ℕ, List, [], ◌∷◌, ◌++◌, map, false, inl, inr, refl, ap, sym, ◌∙◌, append_assoc, subst}
use Rattle.std.proofs.lemmas.Bool.{ltb-true}
use Rattle.predictive.proofs.GapJoint as joint
use Rattle.ir_lexer.specs.Cut.{Placed as PlacedToken}
use Rattle.ir_types.specs.declared.names.Name.{Name}
use Rattle.module_grammar.proofs.Lawful.{lawful}
use Rattle.module_grammar.proofs.ModulesMade.{called_text, declared_text}
use Rattle.module_grammar.proofs.WithGap.{is_gapped}
use Rattle.module_grammar.specs.Balanced.{IsBalanced}
use Rattle.module_grammar.specs.Laws.{WritesOneTree}
use Rattle.module_grammar.specs.Rules.{meaning}
use Rattle.module_grammar.specs.Sets.{sets}
use Rattle.module_grammar.specs.Sorts.{Called, DeclaredParams, Holds, sort}
use Rattle.module_grammar.specs.Spelled.{symbol}
use Rattle.module_grammar.specs.Symbols.{Symbol, Debug, Global, close_paren, kind_of, open_paren, unnamed_addr, void}
use Rattle.module_grammar.specs.Texts.{IsWritten}
use Rattle.module_grammar.specs.Tokens.{token_grammar, with_gap}
use Rattle.module_grammar.specs.declared.functions.DeclaredText.{DeclaredText}
use Rattle.module_grammar.specs.declared.places.Placed.{Placed}
use Rattle.module_grammar.specs.declared.types.CalledText.{CalledText}
use Rattle.module_grammar.specs.declared.words.Language.TheVariants.{Ir}
use Rattle.module_spelling.specs.Context.{StandFor}
use Rattle.module_spelling.specs.Spells.{StatesParams, StatesTypes}
use Rattle.module_texts.proofs.Kept.{params_may_stand, types_may_stand}
use Rattle.module_texts.proofs.Starts.{AreFrom}
use Rattle.module_texts.proofs.Stating.{params_one, types_one}
use Rattle.module_texts.proofs.Stood.{one_place}
use Rattle.predictive.proofs.Faults.{none_in_text}
use Rattle.predictive.specs.Predictive.{MayEnd}
use Rattle.predictive.specs.declared.symbol.Symbol.TheVariants.{Non}
use Rattle.predictive.specs.Made.{Made}
use Rattle.module_texts.proofs.JudgedTexts.Contexts.{Verdict, verdict}
use Rattle.module_texts.proofs.JudgedTexts.Decided.{Decided}
use Rattle.module_texts.proofs.JudgedTexts.Framed.{Framed, IsDebugAt, IsGlobalAt, debug_or_not, fixed_or_not, framed_or_not, global_or_not}

-- ---- what tokens are written of

written_or_not : (n : ℕ) → n < 92 → MayEnd sets n → ((v : meaning.Value n) → Made meaning n v) → (tokens : List Symbol) → Decided ((v : Holds (sort n)) × IsWritten (sort n) v tokens)
written_or_not n small may made tokens = by (verdict n may (map kind_of tokens))
  where
    by : Verdict n (map kind_of tokens) → Decided ((v : Holds (sort n)) × IsWritten (sort n) v tokens)
    by (inl d) = let all = joint.leaves meaning lawful with_gap is_gapped n small d.0 d.1 tokens d.2 in inl (all.0, all.1)
    by (inr fault) = inr (λ w.
        none_in_text token_grammar (Non n ∷ []) (map kind_of tokens) fault.0 (joint.kinds_of_text meaning lawful with_gap is_gapped n small made (w.0, tokens, w.1)) fault.1)

called_or_not : (tokens : List Symbol) → Decided ((c : CalledText) × IsWritten Called c tokens)
called_or_not = written_or_not 38 (ltb-true 38 92 refl) (ltb-true 38 94 refl, refl) called_text

declared_or_not : (tokens : List Symbol) → Decided ((c : DeclaredText) × IsWritten DeclaredParams c tokens)
declared_or_not = written_or_not 7 (ltb-true 7 92 refl) (ltb-true 7 94 refl, refl) declared_text

-- ---- what is stated at a place

record TypesAt (symbols : List Symbol) (p : ℕ) : Type 0 where
  pub name : Placed Name
  pub what : CalledText
  pub states : StatesTypes symbols name what
  pub at : name.start ≡ p

record ParamsAt (symbols : List Symbol) (p : ℕ) : Type 0 where
  pub name : Placed Name
  pub what : DeclaredText
  pub states : StatesParams symbols name what
  pub at : name.start ≡ p

types_or_not : (symbols : List Symbol) (p : ℕ) → Decided (TypesAt symbols p)
types_or_not symbols p = by (framed_or_not (λ s. s ≡ void) (IsGlobalAt p) (IsWritten Called) (fixed_or_not 2) (global_or_not p) called_or_not symbols)
  where
    by : Decided (Framed (λ s. s ≡ void) (IsGlobalAt p) (IsWritten Called) symbols) → Decided (TypesAt symbols p)
    by (inl f) = inl (record {
      name = f.follows.0;
      what = f.what;
      states = record {
        before = f.before;
        types = f.inside;
        behind = f.behind;
        same =
            f.same ∙ ap (λ s. f.before ++ (s ∷ open_paren ∷ (f.inside ++ (close_paren ∷ f.follower ∷ f.behind)))) f.opens
            ∙ ap (λ s. f.before ++ (void ∷ open_paren ∷ (f.inside ++ (close_paren ∷ s ∷ f.behind)))) f.follows.1;
        written = f.is;
      };
      at = f.follows.2;
    })
    by (inr none) = inr (λ t. none (record {
      before = t.states.before;
      opener = void;
      inside = t.states.types;
      follower = Global t.name;
      behind = t.states.behind;
      same = t.states.same;
      opens = refl;
      follows = (t.name, refl, t.at);
      what = t.what;
      is = t.states.written;
    }))

params_or_not : (symbols : List Symbol) (p : ℕ) → Decided (ParamsAt symbols p)
params_or_not symbols p = by (framed_or_not (IsDebugAt p) (λ s. s ≡ unnamed_addr) (IsWritten DeclaredParams) (debug_or_not p) (fixed_or_not 28) declared_or_not symbols)
  where
    by : Decided (Framed (IsDebugAt p) (λ s. s ≡ unnamed_addr) (IsWritten DeclaredParams) symbols) → Decided (ParamsAt symbols p)
    by (inl f) = inl (record {
      name = f.opens.0;
      what = f.what;
      states = record {
        before = f.before;
        params = f.inside;
        behind = f.behind;
        same =
            f.same ∙ ap (λ s. f.before ++ (s ∷ open_paren ∷ (f.inside ++ (close_paren ∷ f.follower ∷ f.behind)))) f.opens.1
            ∙ ap (λ s. f.before ++ (Debug f.opens.0 ∷ open_paren ∷ (f.inside ++ (close_paren ∷ s ∷ f.behind)))) f.follows;
        written = f.is;
      };
      at = f.opens.2;
    })
    by (inr none) = inr (λ t. none (record {
      before = t.states.before;
      opener = Debug t.name;
      inside = t.states.params;
      follower = unnamed_addr;
      behind = t.states.behind;
      same = t.states.same;
      opens = (t.name, refl, t.at);
      follows = refl;
      what = t.what;
      is = t.states.written;
    }))

-- ---- what is told

types_told : {symbols : List Symbol} {p : ℕ} → Decided (TypesAt symbols p) → CalledText
types_told (inl t) = t.what
types_told (inr none) = record { types = []; is_open = false }

params_told : {symbols : List Symbol} {p : ℕ} → Decided (ParamsAt symbols p) → DeclaredText
params_told (inl t) = t.what
params_told (inr none) = record { params = []; is_open = false }

pub stated : List Symbol → Placed Name → CalledText
stated symbols x = types_told (types_or_not symbols x.start)

pub params : List Symbol → Placed Name → DeclaredText
params symbols x = params_told (params_or_not symbols x.start)

-- the name stands behind what stands in front of it
fronted :
    (before types behind : List Symbol) (s : Symbol)
    → before ++ (void ∷ open_paren ∷ (types ++ (close_paren ∷ s ∷ behind))) ≡ (before ++ (void ∷ open_paren ∷ (types ++ (close_paren ∷ [])))) ++ (s ∷ behind)
fronted before types behind s =
    ap (λ l. before ++ (void ∷ open_paren ∷ l)) (sym (append_assoc types (close_paren ∷ []) (s ∷ behind)))
    ∙ sym (append_assoc before (void ∷ open_paren ∷ (types ++ (close_paren ∷ []))) (s ∷ behind))

-- behind tokens of a text
module _ (text : List ℕ) (tokens : List PlacedToken) (symbols : List Symbol) (from : AreFrom 0 tokens) (stand : StandFor (map (symbol Ir text) tokens) symbols) where
  abbrev own : List Symbol
  own = map (symbol Ir text) tokens

  -- no other types stand before a name
  pub types_are : WritesOneTree Called → (x : Placed Name) (c : CalledText) → StatesTypes symbols x c → stated symbols x ≡ c
  unfolding stated types_told
  types_are once x c states = by (types_or_not symbols x.start)
    where
      by : (d : Decided (TypesAt symbols x.start)) → types_told d ≡ c
      by (inl t) = types_one text tokens symbols from stand once t.name x t.what c t.states states t.at
      by (inr none) = absurd (none (record { name = x; what = c; states = states; at = refl }))

  pub params_are : WritesOneTree DeclaredParams → (x : Placed Name) (c : DeclaredText) → StatesParams symbols x c → params symbols x ≡ c
  unfolding params params_told
  params_are once x c states = by (params_or_not symbols x.start)
    where
      by : (d : Decided (ParamsAt symbols x.start)) → params_told d ≡ c
      by (inl t) = params_one text tokens symbols from stand once t.name x t.what c t.states states t.at
      by (inr none) = absurd (none (record { name = x; what = c; states = states; at = refl }))

  -- what stands before a name between parentheses is told
  pub types_stand :
      (x : Placed Name) (before inside behind : List Symbol) → symbols ≡ before ++ (void ∷ open_paren ∷ (inside ++ (close_paren ∷ Global x ∷ behind)))
      → IsBalanced inside → StatesTypes symbols x (stated symbols x)
  unfolding stated types_told
  types_stand x before inside behind e balanced = by (types_or_not symbols x.start)
    where
      by : (d : Decided (TypesAt symbols x.start)) → StatesTypes symbols x (types_told d)
      by (inl t) =
          let front : List Symbol = before ++ (void ∷ open_paren ∷ (inside ++ (close_paren ∷ []))) in
          let other : List Symbol = t.states.before ++ (void ∷ open_paren ∷ (t.states.types ++ (close_paren ∷ []))) in
          let rows : Global t.name ∷ t.states.behind ≡ Global x ∷ behind =
          (one_place text 0 [] tokens symbols from stand other t.states.behind front behind (Global t.name) (Global x) x.start
          (t.states.same ∙ fronted t.states.before t.states.types t.states.behind (Global t.name)) (e ∙ fronted before inside behind (Global x)) t.at refl).1 in
          let same : t.name ≡ x = cc in
          subst (λ y. StatesTypes symbols y t.what) same t.states
      by (inr none) = absurd (types_may_stand own symbols stand before inside behind x e balanced (λ c states. none (record { name = x; what = c; states = states; at = refl })))

  pub params_stand :
      (x : Placed Name) (before inside behind : List Symbol) → symbols ≡ before ++ (Debug x ∷ open_paren ∷ (inside ++ (close_paren ∷ unnamed_addr ∷ behind)))
      → IsBalanced inside → StatesParams symbols x (params symbols x)
  unfolding params params_told
  params_stand x before inside behind e balanced = by (params_or_not symbols x.start)
    where
      by : (d : Decided (ParamsAt symbols x.start)) → StatesParams symbols x (params_told d)
      by (inl t) =
          let rows : Debug t.name ∷ (open_paren ∷ (t.states.params ++ (close_paren ∷ unnamed_addr ∷ t.states.behind))) ≡ Debug x ∷ (open_paren ∷ (inside ++ (close_paren ∷ unnamed_addr ∷ behind))) =
          (one_place text 0 [] tokens symbols from stand t.states.before (open_paren ∷ (t.states.params ++ (close_paren ∷ unnamed_addr ∷ t.states.behind))) before
          (open_paren ∷ (inside ++ (close_paren ∷ unnamed_addr ∷ behind))) (Debug t.name) (Debug x) x.start t.states.same e t.at refl).1 in
          let same : t.name ≡ x = cc in
          subst (λ y. StatesParams symbols y t.what) same t.states
      by (inr none) = absurd (params_may_stand own symbols stand before inside behind x e balanced (λ c states. none (record { name = x; what = c; states = states; at = refl })))
