-- The first of a name: in lists that are joined, and as it is kept.
use Rattle.std.proofs.Common.{◌≡◌, ◌∙◌, ◌||◌, Bool, true, false, cond, List, [], ◌∷◌, ◌++◌, map, Option, None, Some, refl, sym, ap, if◌then◌else◌}
use Rattle.std.specs.Borrow.{Bor}
use Rattle.std.specs.Map.{lookup}
use Rattle.std.specs.Option.{option_copied, option_map, option_or}
use Rattle.ir_core.specs.declared.modules.GlobalVar.{GlobalVar}
use Rattle.ir_core.specs.Typing.{Signature, contents_of}
use Rattle.ir_types.specs.declared.names.Name.{Name}
use Rattle.ir_types.specs.declared.ty.Ty.{Ty}
use Rattle.ir_types.specs.NameLaws.{name_equivalence, same_name_true}
use Rattle.ir_types.specs.Same.{same_name}
use Rattle.ir_core.specs.NameIndexes.Among.{is_among}
use Rattle.ir_typing.specs.ShapeKinds.Names.{with_name, with_names}
use Rattle.ir_typing.specs.ShapeKinds.Typed.{Types, none_typed, or_else, with_type, with_types}
use Rattle.ir_typing.proofs.ShapeKinds.Entries.{Puts}
use Rattle.ir_typing.specs.declared.operand_tests.callees.Callee.{Callee}
use Rattle.ir_typing.specs.declared.operand_tests.callees.Callees.{Callees}
use Rattle.ir_typing.specs.OperandTests.Calls.{signature_in}
use Rattle.ir_typing.specs.OperandTests.Kept.{callee_in, signature_by, signature_of}

turned : (a b : Name) → same_name a b ≡ same_name b a
turned a b = name_equivalence.symm a b

-- ---- functions

or_none : {A : Type 0} (o : Option A) → option_or o None ≡ o
or_none None = refl
or_none (Some x) = refl

or_assoc : {A : Type 0} (o p q : Option A) → option_or (option_or o p) q ≡ option_or o (option_or p q)
or_assoc None p q = refl
or_assoc (Some x) p q = refl

pub signatures_joined : (ss ts : List (Name × Signature)) (x : Name) → signature_in (ss ++ ts) x ≡ option_or (signature_in ss x) (signature_in ts x)
signatures_joined [] ts x = refl
signatures_joined (s ∷ ss) ts x = by (same_name s.0 x) (signatures_joined ss ts x)
  where
    by : (b : Bool) → signature_in (ss ++ ts) x ≡ option_or (signature_in ss x) (signature_in ts x)
        → cond b (Some s.1) (signature_in (ss ++ ts) x) ≡ option_or (cond b (Some s.1) (signature_in ss x)) (signature_in ts x)
    by true more = refl
    by false more = more

-- one more is kept, and these are left
pub one_more : (old new : Option Signature) (s : Name × Signature) (ss : List (Name × Signature)) (x : Name) → new ≡ option_or old (signature_in (s ∷ []) x)
    → option_or new (signature_in ss x) ≡ option_or old (signature_in (s ∷ ss) x)
one_more old new s ss x more =
    ap (λ o. option_or o (signature_in ss x)) more ∙ or_assoc old (signature_in (s ∷ []) x) (signature_in ss x) ∙ sym (ap (option_or old) (signatures_joined (s ∷ []) ss x))

-- the functions of two lists are kept, one after the other
pub both_kept : (before first both : Option Signature) (ss ts : List (Name × Signature)) (x : Name) → before ≡ None → first ≡ option_or before (signature_in ss x)
    → both ≡ option_or first (signature_in ts x) → both ≡ signature_in (ss ++ ts) x
both_kept before first both ss ts x empty one two =
    two ∙ ap (λ o. option_or o (signature_in ts x)) (one ∙ ap (λ o. option_or o (signature_in ss x)) empty) ∙ sym (signatures_joined ss ts x)

-- where a function of that name is there
pub put_there : (callees : Callees) (name : Name) (s : Signature) (v : Callee) → callee_in callees name ≡ Some v
    → (x : Name) → signature_by callees x ≡ option_or (signature_by callees x) (signature_in ((name, s) ∷ []) x)
unfolding signature_by
put_there callees name s v there x = go (same_name name x) refl
  where
    go : (b : Bool) → same_name name x ≡ b → signature_by callees x ≡ option_or (signature_by callees x) (cond b (Some s) None)
    go false e = sym (or_none (signature_by callees x))
    go true e =
        let found : callee_in callees x ≡ Some v = sym (ap (callee_in callees) (same_name_true name x e)) ∙ there in
        ap (option_map signature_of) found ∙ sym (ap (λ o. option_or (option_map signature_of o) (Some s)) found)

-- where none is there, it is put
pub put_new : (callees new : Callees) (name : Bor Name) (v : Callee) → callee_in callees name.now ≡ None
    → Puts callees.first.entries new.first.entries name v
    → (x : Name) → signature_by new x ≡ option_or (signature_by callees x) (signature_in ((name.now, signature_of v) ∷ []) x)
unfolding signature_by
put_new callees new name v none put x =
    ap (option_map signature_of) (put x)
    ∙ go (same_name x name.now) refl
    ∙ ap (λ b. option_or (signature_by callees x) (cond b (Some (signature_of v)) None)) (turned x name.now)
  where
    go : (b : Bool) → same_name x name.now ≡ b
        → option_map signature_of (cond b (Some v) (callee_in callees x)) ≡ option_or (signature_by callees x) (cond b (Some (signature_of v)) None)
    go false e = sym (or_none (signature_by callees x))
    go true e = sym (ap (λ o. option_or (option_map signature_of o) (Some (signature_of v))) (ap (callee_in callees) (same_name_true x name.now e) ∙ none))

-- none is kept
pub none_kept : (callees : Callees) → callees.first.entries ≡ [] → (x : Name) → signature_by callees x ≡ None
unfolding signature_by
none_kept callees none x = ap (λ es. option_map signature_of (lookup (λ (q : Bor Name). same_name x q.now) es)) none

-- ---- names of types

pub among_joined : (x : Name) (names more : List Name) → is_among x (names ++ more) ≡ (is_among x names || is_among x more)
among_joined x [] more = refl
among_joined x (n ∷ names) more = by (same_name x n) (among_joined x names more)
  where
    by : (b : Bool) → is_among x (names ++ more) ≡ (is_among x names || is_among x more) → (b || is_among x (names ++ more)) ≡ ((b || is_among x names) || is_among x more)
    by true e = refl
    by false e = e

without : (b : Bool) → (b || false) ≡ b
without true = refl
without false = refl

both_ways : (b c : Bool) → (c ≡ true → b ≡ true) → b ≡ (b || (c || false))
both_ways true c so = refl
both_ways false true so = so refl
both_ways false false so = refl

-- one more name is kept
among_one : (x : Name) (names : List Name) (n : Name) → is_among x (with_name names n) ≡ (is_among x names || is_among x (n ∷ []))
among_one x names n = go (is_among n names) refl
  where
    go : (b : Bool) → is_among n names ≡ b → is_among x (if b then names else (names ++ n ∷ [])) ≡ (is_among x names || is_among x (n ∷ []))
    go true e = both_ways (is_among x names) (same_name x n) (λ same. ap (λ y. is_among y names) (same_name_true x n same) ∙ e)
    go false e = among_joined x names (n ∷ [])

or_assoc_tests : (a b c : Bool) → ((a || (b || false)) || c) ≡ (a || (b || c))
or_assoc_tests true b c = refl
or_assoc_tests false true c = refl
or_assoc_tests false false c = refl

among_more : (x : Name) (names more : List Name) → is_among x (with_names names more) ≡ (is_among x names || is_among x more)
among_more x names [] = sym (without (is_among x names))
among_more x names (n ∷ more) =
    among_more x (with_name names n) more ∙ ap (λ b. b || is_among x more) (among_one x names n) ∙ or_assoc_tests (is_among x names) (same_name x n) (is_among x more)

-- names that are collected are those
pub among_collected : (x : Name) (names : List Name) → is_among x (with_names [] names) ≡ is_among x names
among_collected x names = among_more x [] names

-- ---- types of what globals hold

abbrev held : GlobalVar → Name × Option Ty
held g = (g.name, Some g.ty)

at_name : (n : Name) (t : Ty) (rest : Option Ty) (x : Name)
    → or_else (if same_name x n then Some (Some t) else None) (option_map Some rest) ≡ option_map Some (cond (same_name n x) (Some t) rest)
at_name n t rest x = ap (λ b. or_else (if b then Some (Some t) else None) (option_map Some rest)) (turned x n) ∙ go (same_name n x)
  where
    go : (b : Bool) → or_else (if b then Some (Some t) else None) (option_map Some rest) ≡ option_map Some (cond b (Some t) rest)
    go true = refl
    go false = refl

else_assoc : (o p q : Option (Option Ty)) → or_else (or_else o p) q ≡ or_else o (or_else p q)
else_assoc None p q = refl
else_assoc (Some t) p q = refl

else_none : (o : Option (Option Ty)) → o ≡ or_else o None
else_none None = refl
else_none (Some t) = refl

contents_more : (types : Types) (gs : List GlobalVar) (x : Name) → with_types types (map held gs) x ≡ or_else (types x) (option_map Some (contents_of gs x))
unfolding with_type
contents_more types [] x = else_none (types x)
contents_more types (g ∷ gs) x =
    contents_more (with_type types g.name (Some g.ty)) gs x
    ∙ else_assoc (types x) (if same_name x g.name then Some (Some g.ty) else None) (option_map Some (contents_of gs x))
    ∙ ap (or_else (types x)) (at_name g.name g.ty (contents_of gs x) x)

-- types that are collected are those of the first of each name
pub contents_collected : (gs : List GlobalVar) (x : Name) → with_types none_typed (map (λ (g : GlobalVar). (g.name, Some g.ty)) gs) x ≡ option_map Some (contents_of gs x)
contents_collected gs x = contents_more none_typed gs x

-- what is told is what is there
pub told_there : (told : Option (Bor Ty)) (there : Option Ty) → Some (option_copied told) ≡ option_map Some there → option_copied told ≡ there
told_there told None e = absurd (cc)
told_there None (Some t) e = absurd (cc)
told_there (Some told) (Some t) e = cc

pub none_there : (there : Option Ty) → None ≡ option_map Some there → None ≡ there
none_there None e = refl
none_there (Some t) e = absurd (cc)
