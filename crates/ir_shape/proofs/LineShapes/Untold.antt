-- Names differ where what is told of them is told for the first time, and no block has the name of a register.
use Rattle.std.proofs.Common.{◌≡◌, ◌∙◌, ◌⊎◌, ⊎_elim, inl, inr, ◌&&◌, ◌||◌, ◌<◌, ◌+◌, ℕ, Bool, true, false, not, cond, List, [], ◌∷◌, ◌++◌, drop, get_or, length, map, Option, None, Some, append_assoc, arith, refl, sym, ap, ap₂, subst, if◌then◌else◌}
use Rattle.std.proofs.lemmas.List.{append-nil, drop_more}
use Rattle.std.proofs.lemmas.List.Elements.{Contains-append_left, Contains-push, Contains-push_cases}
use Rattle.std.specs.List.{AllByRecursion, Contains, flat_map}
use Rattle.std.specs.Option.{is_some}
use Rattle.ir_core.specs.declared.functions.Block.{Block}
use Rattle.ir_core.specs.declared.functions.Function.{Function}
use Rattle.ir_core.specs.declared.functions.Instr.{Instr}
use Rattle.ir_core.specs.declared.modules.Module.{Module}
use Rattle.ir_core.specs.Functions.{block_names, names_in, names_of, params_of, phi_registers, registers_of, set_by}
use Rattle.ir_core.specs.Order.{AreNew}
use Rattle.ir_core.proofs.Lines.{names_more}
use Rattle.ir_types.specs.declared.named.NamedTy.{NamedTy}
use Rattle.ir_types.specs.declared.names.Name.{Name}
use Rattle.ir_types.specs.declared.ty.Ty.{Ty}
use Rattle.ir_types.specs.NameLaws.{same_name_true}
use Rattle.ir_types.specs.Same.{same_name}
use Rattle.ir_core.specs.NameIndexes.Among.{is_among}
use Rattle.ir_core.proofs.NameIndexes.Among.{not_there}
use Rattle.ir_typing.specs.ShapeKinds.Names.{are_new, with_name, with_names}
use Rattle.ir_typing.specs.ShapeKinds.Typed.{Types, none_typed, or_else, with_type, with_types}
use Rattle.ir_shape.proofs.ShapeTests.Taken.{all_put, both_new, new_behind, new_by, new_front, new_is, registers_joined}
use Rattle.ir_shape.proofs.ShapeTests.Tests.{all_left, all_right, all_there, both_assoc, both_hold, each_tested, not_true, one_there, with_true}
use Rattle.ir_shape.proofs.ShapeTests.Typed.{types_joined}
use Rattle.ir_shape.specs.ShapeTests.Kinds.{gives_type, typed}
use Rattle.ir_shape.specs.LineShapes.Assumed.{told_by, told_in_by, types_by}
use Rattle.ir_shape.specs.LineShapes.Untold.{are_untold, have_own_names}

-- a name with what is told of it
abbrev Said : Type 0
Said = Name × Option Ty

-- ---- one after the other

pub untold_joined : (types : Types) (xs ys : List (Name × Option Ty)) → are_untold types (xs ++ ys) ≡ (are_untold types xs && are_untold (with_types types xs) ys)
untold_joined types [] ys = refl
untold_joined types (r ∷ xs) ys =
    ap (λ b. not (is_some (types r.0)) && b) (untold_joined (with_type types r.0 r.1) xs ys)
    ∙ sym (both_assoc (not (is_some (types r.0))) (are_untold (with_type types r.0 r.1) xs) (are_untold (with_types (with_type types r.0 r.1) xs) ys))

pub untold_one : (types : Types) (name : Name) (t : Option Ty) → not (is_some (types name)) ≡ are_untold types ((name, t) ∷ [])
untold_one types name t = sym (with_true (not (is_some (types name))))

-- what is left after one more
pub more_untold : {A : Type 0} (told : A → List (Name × Option Ty)) (all : List A → List (Name × Option Ty)) → ((x : A) (ys : List A) → all (x ∷ ys) ≡ told x ++ all ys) → (types new : Types) (xs : List A)
    (k : ℕ) (x : A) (so_far first both : Bool) (typed_whole : Types) (whole : Bool) → k < length xs → x ≡ get_or xs k x → first ≡ are_untold types (told x) → new ≡ with_types types (told x)
    → both ≡ (so_far && first) → (with_types types (all (drop k xs)) ≡ typed_whole) × ((so_far && are_untold types (all (drop k xs))) ≡ whole)
    → (with_types new (all (drop (k + 1) xs)) ≡ typed_whole) × ((both && are_untold new (all (drop (k + 1) xs))) ≡ whole)
more_untold {A = A} told all one types new xs k x so_far first both typed_whole whole within at untold put joined before =
    let rest = all (drop (k + 1) xs) in
    let split : all (drop k xs) ≡ told x ++ rest = ap all (drop_more xs k x within ∙ ap (λ (y : A). y ∷ drop (k + 1) xs) (sym at)) ∙ one x (drop (k + 1) xs) in (
      ap (λ (t : Types). with_types t rest) put ∙ sym (types_joined types (told x) rest) ∙ ap (with_types types) (sym split) ∙ before.0,
      ap (λ (b : Bool). b && are_untold new rest) (joined ∙ ap (λ (b : Bool). so_far && b) untold)
          ∙ ap (λ (t : Types). (so_far && are_untold types (told x)) && are_untold t rest) put
          ∙ both_assoc so_far (are_untold types (told x)) (are_untold (with_types types (told x)) rest)
          ∙ ap (λ (b : Bool). so_far && b) (sym (untold_joined types (told x) rest) ∙ ap (are_untold types) (sym split))
          ∙ before.1,
    )

abbrev labels_in : List Block → List Name
labels_in = map (λ (b : Block). b.name)

-- the same of labels
pub more_labels : (taken new : List Name) (bs : List Block) (k : ℕ) (b : Block) (so_far there both : Bool) (names : List Name) (whole : Bool) → k < length bs → b ≡ get_or bs k b
    → there ≡ is_among b.name taken → new ≡ with_name taken b.name → both ≡ (so_far && not there)
    → (with_names taken (labels_in (drop k bs)) ≡ names) × ((so_far && are_new taken (labels_in (drop k bs))) ≡ whole)
    → (with_names new (labels_in (drop (k + 1) bs)) ≡ names) × ((both && are_new new (labels_in (drop (k + 1) bs))) ≡ whole)
more_labels taken new bs k b so_far there both names whole within at taken_is put joined before =
    let rest = labels_in (drop (k + 1) bs) in
    let split : labels_in (drop k bs) ≡ b.name ∷ rest = ap labels_in (drop_more bs k b within ∙ ap (λ (y : Block). y ∷ drop (k + 1) bs) (sym at)) in (
      ap (λ (ns : List Name). with_names ns rest) put ∙ ap (with_names taken) (sym split) ∙ before.0,
      ap (λ (t : Bool). t && are_new new rest) (joined ∙ ap (λ (t : Bool). so_far && not t) taken_is)
          ∙ ap (λ (ns : List Name). (so_far && not (is_among b.name taken)) && are_new ns rest) put
          ∙ both_assoc so_far (not (is_among b.name taken)) (are_new (with_name taken b.name) rest)
          ∙ ap (λ (ns : List Name). so_far && are_new taken ns) (sym split)
          ∙ before.1,
    )

-- ---- names that are told of, and names that are taken

-- a name is told of where it is taken
abbrev Alike : Types → List Name → Type 0
Alike types taken = (n : Name) → is_some (types n) ≡ is_among n taken

or_some : (o : Option (Option Ty)) (b : Bool) (t : Option Ty) → is_some (or_else o (if b then Some t else None)) ≡ (is_some o || b)
or_some None true t = refl
or_some None false t = refl
or_some (Some s) b t = refl

or_either : (a b c : Bool) → ((a || b) || c) ≡ (a || (b || c))
or_either true b c = refl
or_either false b c = refl

or_last : (b : Bool) → (b || false) ≡ b
or_last true = refl
or_last false = refl

among_last : (n m : Name) (ns : List Name) → is_among n (ns ++ m ∷ []) ≡ (is_among n ns || same_name n m)
among_last n m [] = or_last (same_name n m)
among_last n m (x ∷ ns) = ap (λ b. same_name n x || b) (among_last n m ns) ∙ sym (or_either (same_name n x) (is_among n ns) (same_name n m))

or_known : (a b : Bool) → (b ≡ true → a ≡ true) → a ≡ (a || b)
or_known true b known = refl
or_known false true known = known refl
or_known false false known = refl

among_with : (n m : Name) (taken : List Name) → is_among n (with_name taken m) ≡ (is_among n taken || same_name n m)
among_with n m taken = go (is_among m taken) refl
  where
    go : (b : Bool) → is_among m taken ≡ b → is_among n (with_name taken m) ≡ (is_among n taken || same_name n m)
    go true e =
        ap (λ b. is_among n (if b then taken else (taken ++ m ∷ []))) e
        ∙ or_known (is_among n taken) (same_name n m) (λ same. ap (λ (x : Name). is_among x taken) (same_name_true n m same) ∙ e)
    go false e = ap (λ b. is_among n (if b then taken else (taken ++ m ∷ []))) e ∙ among_last n m taken

alike_more : (types : Types) (taken : List Name) (m : Name) (t : Option Ty) → Alike types taken → Alike (with_type types m t) (with_name taken m)
unfolding with_type
alike_more types taken m t alike n = or_some (types n) (same_name n m) t ∙ ap (λ b. b || same_name n m) (alike n) ∙ sym (among_with n m taken)

untold_new : (types : Types) (taken : List Name) (rs : List (Name × Option Ty)) → Alike types taken → are_untold types rs ≡ are_new taken (map (λ (r : Name × Option Ty). r.0) rs)
untold_new types taken [] alike = refl
untold_new types taken (r ∷ rs) alike =
    ap (λ b. not b && are_untold (with_type types r.0 r.1) rs) (alike r.0)
    ∙ ap (λ b. not (is_among r.0 taken) && b) (untold_new (with_type types r.0 r.1) (with_name taken r.0) rs (alike_more types taken r.0 r.1 alike))

all_alike : (types : Types) (taken : List Name) (rs : List (Name × Option Ty)) → Alike types taken → Alike (with_types types rs) (with_names taken (map (λ (r : Name × Option Ty). r.0) rs))
all_alike types taken [] alike = alike
all_alike types taken (r ∷ rs) alike = all_alike (with_type types r.0 r.1) (with_name taken r.0) rs (alike_more types taken r.0 r.1 alike)

-- ---- the names of registers

typed_names : (rs : List (Name × Ty)) → map (λ (r : Said). r.0) (typed rs) ≡ names_in rs
typed_names [] = refl
typed_names (r ∷ rs) = ap (λ ns. r.0 ∷ ns) (typed_names rs)

said_joined : (xs ys : List Said) → map (λ (r : Said). r.0) (xs ++ ys) ≡ map (λ (r : Said). r.0) xs ++ map (λ (r : Said). r.0) ys
said_joined [] ys = refl
said_joined (x ∷ xs) ys = ap (λ ns. x.0 ∷ ns) (said_joined xs ys)

line_names : (assumed : Bool) (types : List NamedTy) (ls : List Instr) → map (λ (r : Said). r.0) (flat_map (told_by assumed types) ls) ≡ names_in (set_by ls)
line_names assumed types [] = refl
line_names assumed types (l ∷ ls) =
    said_joined (told_by assumed types l) (flat_map (told_by assumed types) ls)
    ∙ ap₂ (λ (xs ys : List Name). xs ++ ys) (one_line assumed types l) (line_names assumed types ls)
    ∙ sym (names_more l ls)
  where
    one_line : (assumed : Bool) (types : List NamedTy) (l : Instr) → map (λ (r : Said). r.0) (told_by assumed types l) ≡ names_in (set_by (l ∷ []))
    one_line assumed types l = go (set_by (l ∷ []))
      where
        go : (rs : List (Name × Ty)) → map (λ (r : Said). r.0) (map (λ (r : Name × Ty). let pair : Said = (r.0, cond (assumed || gives_type types l) (Some r.1) None) in pair) rs) ≡ names_in rs
        go [] = refl
        go (r ∷ rs) = ap (λ ns. r.0 ∷ ns) (go rs)

block_said : (assumed : Bool) (types : List NamedTy) (b : Block) → map (λ (r : Said). r.0) (told_in_by assumed types b) ≡ names_in (registers_of b)
block_said assumed types b =
    said_joined (typed (phi_registers b.phis)) (flat_map (told_by assumed types) b.body)
    ∙ ap₂ (λ (xs ys : List Name). xs ++ ys) (typed_names (phi_registers b.phis)) (line_names assumed types b.body)
    ∙ sym (registers_joined (phi_registers b.phis) (set_by b.body))

blocks_said : (assumed : Bool) (types : List NamedTy) (bs : List Block) → map (λ (r : Said). r.0) (flat_map (told_in_by assumed types) bs) ≡ names_in (flat_map registers_of bs)
blocks_said assumed types [] = refl
blocks_said assumed types (b ∷ bs) =
    said_joined (told_in_by assumed types b) (flat_map (told_in_by assumed types) bs)
    ∙ ap₂ (λ (xs ys : List Name). xs ++ ys) (block_said assumed types b) (blocks_said assumed types bs)
    ∙ sym (registers_joined (registers_of b) (flat_map registers_of bs))

-- whether parameters have new names
pub params_new : (rs : List (Name × Ty)) → are_untold none_typed (typed rs) ≡ are_new [] (names_in rs)
params_new rs = untold_new none_typed [] (typed rs) (λ n. refl) ∙ ap (are_new []) (typed_names rs)

-- ---- labels among registers

-- each that is taken is a register or a label
abbrev Cover : List Name → List Name → List Name → Type 0
Cover taken regs labels = (n : Name) → Contains taken n → Contains regs n ⊎ Contains labels n

register_more : (taken regs labels : List Name) (x : Name) → Cover taken regs labels → Cover (taken ++ x ∷ []) (regs ++ x ∷ []) labels
register_more taken regs labels x cover n there =
    ⊎_elim (λ old. ⊎_elim (λ r. inl (Contains-append_left regs (x ∷ []) n r)) (λ l. inr l) (cover n old))
    (λ new. inl (subst (Contains (regs ++ x ∷ [])) new (Contains-push regs x))) (Contains-push_cases taken x n there)

label_more : (taken regs labels : List Name) (x : Name) → Cover taken regs labels → Cover (taken ++ x ∷ []) regs (labels ++ x ∷ [])
label_more taken regs labels x cover n there =
    ⊎_elim (λ old. ⊎_elim (λ r. inl r) (λ l. inr (Contains-append_left labels (x ∷ []) n l)) (cover n old))
    (λ new. inr (subst (Contains (labels ++ x ∷ [])) new (Contains-push labels x))) (Contains-push_cases taken x n there)

registers_more : (xs taken regs labels : List Name) → Cover taken regs labels → Cover (taken ++ xs) (regs ++ xs) labels
registers_more [] taken regs labels cover =
    subst (λ rs. Cover (taken ++ []) rs labels) (sym (append-nil regs)) (subst (λ ts. Cover ts regs labels) (sym (append-nil taken)) cover)
registers_more (x ∷ xs) taken regs labels cover =
    subst (λ rs. Cover (taken ++ x ∷ xs) rs labels) (append_assoc regs (x ∷ []) xs)
    (subst (λ ts. Cover ts ((regs ++ x ∷ []) ++ xs) labels) (append_assoc taken (x ∷ []) xs)
    (registers_more xs (taken ++ x ∷ []) (regs ++ x ∷ []) labels (register_more taken regs labels x cover)))

module _ (IsLabel : Name → Type 0) where
  registers_apart : (xs taken regs labels : List Name) → Cover taken regs labels → ((n : Name) → Contains labels n → IsLabel n) → AllByRecursion (λ (n : Name). IsLabel n → ⊥) xs → AreNew regs xs
      → AreNew taken xs
  registers_apart [] taken regs labels cover label others new = tt
  registers_apart (x ∷ xs) taken regs labels cover label others new = (
    λ there. ⊎_elim (λ r. new.0 r) (λ l. others.0 (label x l)) (cover x there),
    registers_apart xs (taken ++ x ∷ []) (regs ++ x ∷ []) labels (register_more taken regs labels x cover) label others.1 new.1,
  )

  labels_more : (labels : List Name) (x : Name) → ((n : Name) → Contains labels n → IsLabel n) → IsLabel x → (n : Name) → Contains (labels ++ x ∷ []) n → IsLabel n
  labels_more labels x label one n there = ⊎_elim (λ old. label n old) (λ new. subst IsLabel new one) (Contains-push_cases labels x n there)

  others_more : (xs regs : List Name) → ((n : Name) → Contains regs n → IsLabel n → ⊥) → AllByRecursion (λ (n : Name). IsLabel n → ⊥) xs → (n : Name) → Contains (regs ++ xs) n → IsLabel n → ⊥
  others_more [] regs other others n there = other n (subst (λ ns. Contains ns n) (append-nil regs) there)
  others_more (x ∷ xs) regs other others n there =
      others_more xs (regs ++ x ∷ [])
      (λ m this. ⊎_elim (λ old. other m old) (λ new. subst (λ (y : Name). IsLabel y → ⊥) new others.0) (Contains-push_cases regs x m this))
      others.1 n (subst (λ ns. Contains ns n) (sym (append_assoc regs (x ∷ []) xs)) there)

  blocks_apart : (bs : List Block) (taken regs labels : List Name) → Cover taken regs labels → ((n : Name) → Contains labels n → IsLabel n) → ((n : Name) → Contains regs n → IsLabel n → ⊥)
      → AllByRecursion IsLabel (map (λ (b : Block). b.name) bs) → AllByRecursion (λ (n : Name). IsLabel n → ⊥) (names_in (flat_map registers_of bs)) → AreNew regs (names_in (flat_map registers_of bs))
      → AreNew labels (map (λ (b : Block). b.name) bs) → AreNew taken (flat_map block_names bs)
  blocks_apart [] taken regs labels cover label other are others new own = tt
  blocks_apart (b ∷ bs) taken regs labels cover label other are others new own =
      let here = names_in (registers_of b) in
      let rest = names_in (flat_map registers_of bs) in
      let joined : names_in (registers_of b ++ flat_map registers_of bs) ≡ here ++ rest = registers_joined (registers_of b) (flat_map registers_of bs) in
      let others_here : AllByRecursion (λ (n : Name). IsLabel n → ⊥) (here ++ rest) = subst (AllByRecursion (λ (n : Name). IsLabel n → ⊥)) joined others in
      let new_here : AreNew regs (here ++ rest) = subst (AreNew regs) joined new in
      let first = label_more taken regs labels b.name cover in
      let label_too = labels_more labels b.name label are.0 in
      let others_own = all_left (λ (n : Name). IsLabel n → ⊥) here rest others_here in (
        λ there. ⊎_elim (λ r. other b.name r are.0) (λ l. own.0 l) (cover b.name there),
        both_new here (flat_map block_names bs) (taken ++ b.name ∷ [])
            (registers_apart here (taken ++ b.name ∷ []) regs (labels ++ b.name ∷ []) first label_too others_own (new_front here rest regs new_here))
            (blocks_apart bs ((taken ++ b.name ∷ []) ++ here) (regs ++ here) (labels ++ b.name ∷ []) (registers_more here (taken ++ b.name ∷ []) regs (labels ++ b.name ∷ []) first) label_too
            (others_more here regs other others_own) are.1 (all_right (λ (n : Name). IsLabel n → ⊥) here rest others_here) (new_behind here rest regs new_here) own.1),
      )

-- where registers differ, and labels do, and no label is told of, all names differ
pub names_new : (assumed : Bool) (m : Module) (f : Function) → are_untold none_typed (typed (params_of f)) ≡ true
    → are_untold (with_types none_typed (typed (params_of f))) (flat_map (told_in_by assumed m.types) f.blocks) ≡ true → are_new [] (map (λ (b : Block). b.name) f.blocks) ≡ true
    → have_own_names (types_by assumed m f) f.blocks ≡ true → are_new [] (names_of f) ≡ true
names_new assumed m f params registers labels own =
    let ps = names_in (params_of f) in
    let rest = names_in (flat_map registers_of f.blocks) in
    let rs = typed (params_of f) ++ flat_map (told_in_by assumed m.types) f.blocks in
    let names = map (λ (b : Block). b.name) f.blocks in
    let all : are_untold none_typed rs ≡ true = untold_joined none_typed (typed (params_of f)) (flat_map (told_in_by assumed m.types) f.blocks)
    ∙ both_hold (are_untold none_typed (typed (params_of f))) (are_untold (with_types none_typed (typed (params_of f))) (flat_map (told_in_by assumed m.types) f.blocks)) params registers in
    let said : map (λ (r : Said). r.0) rs ≡ ps ++ rest = said_joined (typed (params_of f)) (flat_map (told_in_by assumed m.types) f.blocks)
    ∙ ap₂ (λ (xs ys : List Name). xs ++ ys) (typed_names (params_of f)) (blocks_said assumed m.types f.blocks) in
    let new : AreNew [] (ps ++ rest) = new_by [] (ps ++ rest) (sym (untold_new none_typed [] rs (λ n. refl) ∙ ap (are_new []) said) ∙ all) in
    let alike : Alike (types_by assumed m f) (with_names [] (ps ++ rest)) = subst (λ (ns : List Name). Alike (types_by assumed m f) (with_names [] ns)) said (all_alike none_typed [] rs (λ n. refl)) in
    let apart : AllByRecursion (λ (n : Name). Contains (ps ++ rest) n → ⊥) names = own_names (ps ++ rest) (types_by assumed m f) f.blocks alike (each_tested (λ (b : Block). not (is_some (types_by assumed m f b.name))) f.blocks own) in
    let other : (n : Name) → Contains (ps ++ rest) n → Contains names n → ⊥ = λ n there label. one_there (λ (n : Name). Contains (ps ++ rest) n → ⊥) names n apart label there in
    let others : AllByRecursion (λ (n : Name). Contains names n → ⊥) (ps ++ rest) = all_there (λ (n : Name). Contains names n → ⊥) (ps ++ rest) other in
    new_is [] (names_of f)
    (both_new ps (flat_map block_names f.blocks) [] (new_front ps rest [] new)
    (blocks_apart (Contains names) f.blocks ps ps [] (λ n there. inl there) (λ n none. absurd (never_there n none))
    (λ n there. one_there (λ (n : Name). Contains names n → ⊥) ps n (all_left (λ (n : Name). Contains names n → ⊥) ps rest others) there)
    (all_there (Contains names) names (λ n there. there)) (all_right (λ (n : Name). Contains names n → ⊥) ps rest others) (new_behind ps rest [] new) (new_by [] names labels)))
  where
    never_there : (n : Name) → Contains [] n → ⊥
    never_there n there = omega (arith, there.1)

    own_names : (regs : List Name) (types : Types) (bs : List Block) → Alike types (with_names [] regs) → AllByRecursion (λ (b : Block). not (is_some (types b.name)) ≡ true) bs
        → AllByRecursion (λ (n : Name). Contains regs n → ⊥) (map (λ (b : Block). b.name) bs)
    own_names regs types [] alike tests = tt
    own_names regs types (b ∷ bs) alike tests = (
      λ there. not_there b.name (with_names [] regs) (sym (alike b.name) ∙ not_true (is_some (types b.name)) tests.0)
          (one_there (Contains (with_names [] regs)) regs b.name (all_put regs []) there),
      own_names regs types bs alike tests.1,
    )
