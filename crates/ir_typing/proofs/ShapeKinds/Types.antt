-- The types and the names of registers as they are kept.
use Rattle.std.proofs.Common.{◌≡◌, ◌∙◌, Bool, true, false, cond, List, [], ◌∷◌, ◌++◌, Option, None, Some, refl, sym, ap, if◌then◌else◌}
use Rattle.std.proofs.lemmas.List.{map-append}
use Rattle.std.specs.Borrow.{Bor}
use Rattle.std.specs.Map.{lookup}
use Rattle.std.specs.Option.{is_some, option_copied}
use Rattle.ir_types.specs.declared.names.Name.{Name}
use Rattle.ir_types.specs.declared.ty.Ty.{Ty}
use Rattle.ir_types.specs.NameLaws.{same_name_true}
use Rattle.ir_types.specs.Same.{same_name}
use Rattle.ir_typing.specs.declared.shape_kinds.held_types.Told.{Told}
use Rattle.ir_typing.specs.declared.shape_kinds.lent_types.LentTypes.{LentTypes as Kept}
use Rattle.ir_typing.specs.ShapeKinds.Kept.{Entry, entries_held, entries_told, found_among, found_in, lent, type_in, types_among}
use Rattle.ir_typing.specs.ShapeKinds.Typed.{none_typed, or_else, type_at, with_type}
use Rattle.ir_typing.proofs.ShapeKinds.Entries.{Puts, or_none}

-- where a register of that name is there, its type is put again
pub put_there : (es others news : List Entry) (name : Bor Name) (t first : Option (Bor Ty)) → found_among es name.now ≡ Some first
    → Puts es others name t
    → Puts others news name first → types_among news ≡ with_type (types_among es) name.now (option_copied t)
unfolding with_type
put_there es others news name t first there put again = λ i n. at n i
  where
    at : (n : Name) → lent (found_among news n) ≡ or_else (lent (found_among es n)) (type_at name.now (option_copied t) n)
    at n =
        ap lent (again n)
        ∙ ap (λ o. lent (cond (same_name n name.now) (Some first) o)) (put n)
        ∙ go (same_name n name.now) refl
      where
        go : (b : Bool) → same_name n name.now ≡ b → lent (cond b (Some first) (cond b (Some t) (found_among es n))) ≡ or_else (lent (found_among es n)) (if b then Some (option_copied t) else None)
        go false e = sym (or_none (lent (found_among es n)))
        go true e = sym (ap (λ o. or_else (lent o) (Some (option_copied t))) (ap (found_among es) (same_name_true n name.now e) ∙ there))

-- where none is there, it is put
pub put_new : (es news : List Entry) (name : Bor Name) (t : Option (Bor Ty)) → found_among es name.now ≡ None
    → Puts es news name t → types_among news ≡ with_type (types_among es) name.now (option_copied t)
unfolding with_type
put_new es news name t none put = λ i n. at n i
  where
    at : (n : Name) → lent (found_among news n) ≡ or_else (lent (found_among es n)) (type_at name.now (option_copied t) n)
    at n =
        ap lent (put n)
        ∙ go (same_name n name.now) refl
      where
        go : (b : Bool) → same_name n name.now ≡ b → lent (cond b (Some t) (found_among es n)) ≡ or_else (lent (found_among es n)) (if b then Some (option_copied t) else None)
        go false e = sym (or_none (lent (found_among es n)))
        go true e = sym (ap (λ o. or_else (lent o) (Some (option_copied t))) (ap (found_among es) (same_name_true n name.now e) ∙ none))

-- the last one is found where none before it is
found_last : (es : List Entry) (name : Bor Name) (t : Option (Bor Ty)) (n : Name)
    → lent (found_among (es ++ (name, t) ∷ []) n) ≡ or_else (lent (found_among es n)) (type_at name.now (option_copied t) n)
found_last [] name t n = go (same_name n name.now)
  where
    go : (b : Bool) → lent (cond b (Some t) None) ≡ (if b then Some (option_copied t) else None)
    go true = refl
    go false = refl
found_last (e ∷ es) name t n = go (found_last es name t n) (same_name n e.0.now)
  where
    go : lent (found_among (es ++ (name, t) ∷ []) n) ≡ or_else (lent (found_among es n)) (type_at name.now (option_copied t) n) → (b : Bool)
        → lent (cond b (Some e.1) (found_among (es ++ (name, t) ∷ []) n)) ≡ or_else (lent (cond b (Some e.1) (found_among es n))) (type_at name.now (option_copied t) n)
    go more true = refl
    go more false = more

-- of a name that is there another type says nothing
said_before : (o : Option (Option Ty)) (b : Bool) (t : Option Ty) → (b ≡ true → is_some o ≡ true) → or_else o (if b then Some t else None) ≡ o
said_before None true t there = absurd (true_not_false (sym (there refl)))
  where
    true_not_false : true ≡ false → ⊥
    true_not_false e = cc
said_before None false t there = refl
said_before (Some s) b t there = refl

lent_some : (o : Option (Option (Bor Ty))) → is_some o ≡ true → is_some (lent o) ≡ true
lent_some (Some s) e = refl
lent_some None e = e

lent_is : (o : Option (Option (Bor Ty))) → is_some (lent o) ≡ is_some o
lent_is (Some s) = refl
lent_is None = refl

-- a row with a name more that isn't in it
pub told_new : (row news : List Told) (told : Told) (name : Bor Name) (t : Option (Bor Ty)) → news ≡ row ++ told ∷ [] → told.marked.name ≡ name → told.ty ≡ t
    → types_among (entries_told news) ≡ with_type (types_among (entries_told row)) name.now (option_copied t)
unfolding with_type
told_new row news told name t put own typed = λ i n. at n i
  where
    at : (n : Name) → lent (found_among (entries_told news) n) ≡ or_else (lent (found_among (entries_told row) n)) (type_at name.now (option_copied t) n)
    at n =
        ap (λ (ts : List Told). lent (found_among (entries_told ts) n)) put
        ∙ ap (λ (es : List Entry). lent (found_among es n)) (map-append (λ (t : Told). let e : Entry = (t.marked.name, t.ty) in e) row (told ∷ []))
        ∙ found_last (entries_told row) told.marked.name told.ty n
        ∙ ap (λ (k : Bor Name). or_else (lent (found_among (entries_told row) n)) (type_at k.now (option_copied told.ty) n)) own
        ∙ ap (λ (u : Option (Bor Ty)). or_else (lent (found_among (entries_told row) n)) (type_at name.now (option_copied u) n)) typed

-- a row stays where the name is in it
pub told_before : (row : List Told) (name : Name) (t : Option Ty) → is_some (found_among (entries_told row) name) ≡ true
    → types_among (entries_told row) ≡ with_type (types_among (entries_told row)) name t
unfolding with_type
told_before row name t there = λ i n. at n i
  where
    at : (n : Name) → lent (found_among (entries_told row) n) ≡ or_else (lent (found_among (entries_told row) n)) (type_at name t n)
    at n =
        sym (said_before (lent (found_among (entries_told row) n)) (same_name n name) t
        (λ same. lent_some (found_among (entries_told row) n) (ap (λ (m : Name). is_some (found_among (entries_told row) m)) (same_name_true n name same) ∙ there)))

-- none is kept
pub none_kept : (types : Kept) → entries_held types.held ≡ [] → type_in types ≡ none_typed
unfolding type_in
none_kept types none = λ i n. lent (lookup (λ (q : Bor Name). same_name n q.now) (none i))

-- what is kept is kept in its entries
pub types_are : (types : Kept) → type_in types ≡ types_among (entries_held types.held)
unfolding type_in
types_are types = refl

-- whether there is a name
pub there_is : (types : Kept) (name : Name) → is_some (found_in types name) ≡ is_some (type_in types name)
unfolding type_in
there_is types name = sym (lent_is (found_in types name))
