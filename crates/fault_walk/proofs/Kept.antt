-- The names of a function as they are kept: the first of each name counts.
use Rattle.std.proofs.Common.{◌≡◌, ◌∙◌, ◌||◌, ◌+◌, ◌<◌, ℕ, Bool, true, false, cond, List, [], ◌∷◌, ◌++◌, drop, get_or, length, map, Option, None, Some, is_some, refl, sym, ap, if◌then◌else◌}
use Rattle.std.proofs.lemmas.List.{drop_more, map-append}
use Rattle.std.specs.Borrow.{Bor}
use Rattle.std.specs.List.{cons_option, flat_map}
use Rattle.std.specs.Option.{option_copied, option_map, option_or}
use Rattle.ir_core.specs.declared.functions.Block.{Block}
use Rattle.ir_core.specs.declared.functions.Function.{Function}
use Rattle.ir_core.specs.declared.functions.Instr.{Instr}
use Rattle.ir_core.specs.Functions.{register_of}
use Rattle.ir_core.specs.NameIndexes.Among.{is_among}
use Rattle.ir_types.specs.declared.named.NamedTy.{NamedTy}
use Rattle.ir_types.specs.declared.names.Name.{Name}
use Rattle.ir_types.specs.declared.ty.Ty.{Ty}
use Rattle.ir_types.specs.NameLaws.{name_equivalence, same_name_true}
use Rattle.ir_types.specs.Same.{same_name}
use Rattle.ir_typing.specs.ShapeKinds.Kept.{type_in}
use Rattle.ir_typing.specs.ShapeKinds.Names.{with_name}
use Rattle.ir_typing.specs.ShapeKinds.Typed.{none_typed, or_else, with_type}
use Rattle.named_modules.specs.Faults.{Thing as Seen, Block', Register', Things, register_thing, thing_of, things_in, things_of}
use Rattle.named_modules.specs.Functions.{gives_type, told_of}
use Rattle.fault_walk.specs.Names.{Known, line_things, none_known, param_thing, phi_thing, seen_as, thing_by, with_thing, with_things}
use Rattle.fault_walk.specs.declared.names.Names.{Names}

or_none : {A : Type 0} (o : Option A) → o ≡ option_or o None
or_none None = refl
or_none (Some x) = refl

turned : (a b : Name) → same_name a b ≡ same_name b a
turned a b = name_equivalence.symm a b

-- what is told of a name that is there says nothing
said_before : (o : Option Seen) (b : Bool) (v : Seen) → (b ≡ true → is_some o ≡ true) → o ≡ option_or o (cond b (Some v) None)
said_before None true v there = let e = there refl in cc
said_before None false v there = refl
said_before (Some s) b v there = refl

pub none_there : (names : Names) → names.labels ≡ [] → type_in names.types ≡ none_typed → thing_by names ≡ none_known
unfolding thing_by
none_there names e f = λ i x. seen_as (is_among x (e i)) (f i x)

-- ---- one name more

-- where the name is there
there_already : (names : Names) (x : Name) (s : Seen) → is_some (thing_by names x) ≡ true → thing_by names ≡ with_thing (thing_by names) (x, s)
unfolding with_thing
there_already names x s there = λ i y. at y i
  where
    at : (y : Name) → thing_by names y ≡ option_or (thing_by names y) (cond (same_name x y) (Some s) None)
    at y = said_before (thing_by names y) (same_name x y) s (λ same. ap (λ n. is_some (thing_by names n)) (sym (same_name_true x y same)) ∙ there)

seen_typed : (b : Bool) (found : Option (Option (Bor Ty))) (t : Option (Option Ty)) → option_map option_copied found ≡ t → is_some found ≡ true → is_some (seen_as b t) ≡ true
seen_typed true found t is there = refl
seen_typed false (Some u) t is there = sym (ap (λ o. is_some (seen_as false o)) is)
seen_typed false None t is there = cc

pub label_there : (names : Names) (x : Name) (found : Option (Option (Bor Ty))) → option_map option_copied found ≡ type_in names.types x → is_some found ≡ true
    → thing_by names ≡ with_thing (thing_by names) (x, Block')
unfolding thing_by
label_there names x found is there = there_already names x Block' (known found is there)
  where
    known : (o : Option (Option (Bor Ty))) → option_map option_copied o ≡ type_in names.types x → is_some o ≡ true → is_some (thing_by names x) ≡ true
    known o e h = seen_typed (is_among x names.labels) o (type_in names.types x) e h

pub register_there : (names : Names) (x : Name) (t : Option Ty) → is_among x names.labels ≡ true → thing_by names ≡ with_thing (thing_by names) (x, Register' t)
unfolding thing_by
register_there names x t there = there_already names x (Register' t) (known there)
  where
    known : is_among x names.labels ≡ true → is_some (thing_by names x) ≡ true
    known e = ap (λ b. is_some (seen_as b (type_in names.types x))) e

swapped : (a b c : Bool) → (a || (b || c)) ≡ (b || (a || c))
swapped true true c = refl
swapped true false c = refl
swapped false b c = refl

among_last : (y : Name) (names : List Name) (x : Name) → is_among y (names ++ x ∷ []) ≡ (same_name y x || is_among y names)
among_last y [] x = refl
among_last y (n ∷ names) x = ap (λ b. same_name y n || b) (among_last y names x) ∙ swapped (same_name y n) (same_name y x) (is_among y names)

or_there : (b c : Bool) → (c ≡ true → b ≡ true) → b ≡ (c || b)
or_there true true so = refl
or_there true false so = refl
or_there false true so = so refl
or_there false false so = refl

pub among_with : (y : Name) (names : List Name) (x : Name) → is_among y (with_name names x) ≡ (same_name y x || is_among y names)
among_with y names x = go (is_among x names) refl
  where
    go : (b : Bool) → is_among x names ≡ b → is_among y (if b then names else (names ++ x ∷ [])) ≡ (same_name y x || is_among y names)
    go true e = or_there (is_among y names) (same_name y x) (λ same. ap (λ n. is_among n names) (same_name_true y x same) ∙ e)
    go false e = among_last y names x

label_seen : (s a : Bool) (t : Option (Option Ty)) → (s ≡ true → t ≡ None) → seen_as (s || a) t ≡ option_or (seen_as a t) (cond s (Some Block') None)
label_seen true true t none = refl
label_seen true false t none = sym (ap (λ o. option_or (seen_as false o) (Some Block')) (none refl))
label_seen false a t none = or_none (seen_as a t)

untyped : (found : Option (Option (Bor Ty))) (t : Option (Option Ty)) → option_map option_copied found ≡ t → is_some found ≡ false → t ≡ None
untyped None t is none = sym is
untyped (Some u) t is none = cc

pub label_put : (names new : Names) (x : Name) (found : Option (Option (Bor Ty))) → option_map option_copied found ≡ type_in names.types x → is_some found ≡ false
    → new.labels ≡ with_name names.labels x → new.types ≡ names.types → thing_by new ≡ with_thing (thing_by names) (x, Block')
unfolding thing_by with_thing
label_put names new x found is none put same = λ i y. at y i
  where
    at : (y : Name) → seen_as (is_among y new.labels) (type_in new.types y) ≡ option_or (seen_as (is_among y names.labels) (type_in names.types y)) (cond (same_name x y) (Some Block') None)
    at y =
        ap (λ t. seen_as (is_among y new.labels) (type_in t y)) same
        ∙ ap (λ ns. seen_as (is_among y ns) (type_in names.types y)) put
        ∙ ap (λ b. seen_as b (type_in names.types y)) (among_with y names.labels x ∙ ap (λ b. b || is_among y names.labels) (turned y x))
        ∙ label_seen (same_name x y) (is_among y names.labels) (type_in names.types y) (λ e. ap (type_in names.types) (sym (same_name_true x y e)) ∙ untyped found (type_in names.types x) is none)

register_seen_so : (a s : Bool) (o : Option (Option Ty)) (t : Option Ty)
    → seen_as a (or_else o (if s then Some t else None)) ≡ option_or (seen_as a o) (cond s (Some (Register' t)) None)
register_seen_so true s o t = refl
register_seen_so false s (Some u) t = refl
register_seen_so false true None t = refl
register_seen_so false false None t = refl

pub register_put : (names new : Names) (x : Name) (t : Option Ty) → type_in new.types ≡ with_type (type_in names.types) x t → new.labels ≡ names.labels
    → thing_by new ≡ with_thing (thing_by names) (x, Register' t)
unfolding thing_by with_thing with_type
register_put names new x t put same = λ i y. at y i
  where
    at : (y : Name) → seen_as (is_among y new.labels) (type_in new.types y) ≡ option_or (seen_as (is_among y names.labels) (type_in names.types y)) (cond (same_name x y) (Some (Register' t)) None)
    at y =
        ap (λ ns. seen_as (is_among y ns) (type_in new.types y)) same
        ∙ ap (λ (f : Name → Option (Option Ty)). seen_as (is_among y names.labels) (f y)) put
        ∙ register_seen_so (is_among y names.labels) (same_name y x) (type_in names.types y) t
        ∙ ap (λ b. option_or (seen_as (is_among y names.labels) (type_in names.types y)) (cond b (Some (Register' t)) None)) (turned y x)

-- ---- lines

abbrev told_by : List NamedTy → Instr → Option (Name × Ty) → Things
told_by types line o =
    map register_thing (map (λ (r : Name × Ty). let told : Name × Option Ty = (r.0, cond (gives_type types line) (Some r.1) None) in told) (cons_option o []))

pub one_register : (types : List NamedTy) (line : Instr) (x : Name) (t : Ty) (own : Option Ty) (known new : Known)
    → register_of line ≡ Some (x, t) → own ≡ cond (gives_type types line) (Some t) None → new ≡ with_thing known (x, Register' own)
    → new ≡ with_things known (line_things types line)
one_register types line x t own known new is given put =
    put ∙ ap (λ (o : Option Ty). with_thing known (x, Register' o)) given ∙ sym (ap (λ (o : Option (Name × Ty)). with_things known (told_by types line o)) is)

pub no_register : (types : List NamedTy) (line : Instr) (known : Known) → register_of line ≡ None → known ≡ with_things known (line_things types line)
no_register types line known none = sym (ap (λ (o : Option (Name × Ty)). with_things known (told_by types line o)) none)

pub lines_are : (types : List NamedTy) (lines : List Instr) → map register_thing (flat_map (told_of types) lines) ≡ flat_map (line_things types) lines
lines_are types [] = refl
lines_are types (l ∷ ls) =
    map-append register_thing (told_of types l) (flat_map (told_of types) ls) ∙ ap (λ (ts : Things). line_things types l ++ ts) (lines_are types ls)

-- ---- many

pub things_joined : (known : Known) (ts us : Things) → with_things known (ts ++ us) ≡ with_things (with_things known ts) us
things_joined known [] us = refl
things_joined known (t ∷ ts) us = things_joined (with_thing known t) ts us

-- one of a list more
pub one_more : {A : Type 0} (f : A → Things) (known new all : Known) (xs : List A) (k : ℕ) (x : A) → k < length xs → x ≡ get_or xs k x
    → new ≡ with_things known (f x) → with_things known (flat_map f (drop k xs)) ≡ all → with_things new (flat_map f (drop (k + 1) xs)) ≡ all
one_more {A} f known new all xs k x inside is put so_far =
    ap (λ (now : Known). with_things now (flat_map f (drop (k + 1) xs))) put
    ∙ sym (things_joined known (f x) (flat_map f (drop (k + 1) xs)))
    ∙ sym (ap (λ (ys : List A). with_things known (flat_map f ys)) (drop_more xs k x inside ∙ ap (λ (y : A). y ∷ drop (k + 1) xs) (sym is)))
    ∙ so_far

-- a label, phi nodes and lines
pub block_put : (types : List NamedTy) (b : Block) (known label phis lines : Known) → label ≡ with_thing known (b.name, Block') → phis ≡ with_things label (map phi_thing b.phis)
    → lines ≡ with_things phis (flat_map (line_things types) b.body) → lines ≡ with_things known (things_in types b)
block_put types b known label phis lines one two three =
    let here = with_thing known (b.name, Block') in
    let told = flat_map (line_things types) b.body in
    three
    ∙ ap (λ (k : Known). with_things k told) (two ∙ ap (λ (k : Known). with_things k (map phi_thing b.phis)) one)
    ∙ sym (things_joined here (map phi_thing b.phis) told)
    ∙ sym (ap (λ (ts : Things). with_things here (map phi_thing b.phis ++ ts)) (lines_are types b.body))

-- ---- the first counts

or_assoc : {A : Type 0} (o p q : Option A) → option_or (option_or o p) q ≡ option_or o (option_or p q)
or_assoc None p q = refl
or_assoc (Some x) p q = refl

first_of : (known : Known) (ts : Things) (x : Name) → with_things known ts x ≡ option_or (known x) (thing_of ts x)
unfolding with_thing
first_of known [] x = or_none (known x)
first_of known (t ∷ ts) x =
    first_of (with_thing known t) ts x ∙ or_assoc (known x) (cond (same_name t.0 x) (Some t.1) None) (thing_of ts x) ∙ ap (λ o. option_or (known x) o) (one (same_name t.0 x))
  where
    one : (b : Bool) → option_or (cond b (Some t.1) None) (thing_of ts x) ≡ cond b (Some t.1) (thing_of ts x)
    one true = refl
    one false = refl

pub all_kept : (types : List NamedTy) (f : Function) (names : Names) (none params : Known) → none ≡ none_known → params ≡ with_things none (map param_thing f.params)
    → thing_by names ≡ with_things params (flat_map (things_in types) f.blocks) → (x : Name) → thing_by names x ≡ thing_of (things_of types f) x
all_kept types f names none params nothing first second x =
    let blocks = flat_map (things_in types) f.blocks in
    let all : thing_by names ≡ with_things none_known (things_of types f) =
    second ∙ ap (λ (k : Known). with_things k blocks) (first ∙ ap (λ (k : Known). with_things k (map param_thing f.params)) nothing)
    ∙ sym (things_joined none_known (map param_thing f.params) blocks) in
    ap (λ (k : Known). k x) all ∙ first_of none_known (things_of types f) x
