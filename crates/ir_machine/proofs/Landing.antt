-- Where a jump lands, and to what phis are set on the way.
use Rattle.std.proofs.Common.{◌≡◌, ℕ, ◌<◌, ◌≤◌, ◌+◌, ◌*◌, ◌%◌, ◌^◌, arith, lit<, Bool, true, false, nat_eq, List, ◌∷◌, length, get_or, drop, map, Option, None, Some, refl, sym, ap, ◌∙◌}
use Rattle.std.specs.Prelude.{find, slice_get}
use Rattle.std.specs.List.{list_any}
use Rattle.std.proofs.lemmas.Option.{slice_get-get_or}
use Rattle.std.proofs.lemmas.Nat.{one_shl}
use Rattle.std.proofs.Math.Nat.{mod-eq_of_lt, pow-le-pow_right}
use Rattle.ir_core.specs.declared.functions.Block.{Block}
use Rattle.ir_core.specs.declared.functions.Case.{Case}
use Rattle.ir_core.specs.declared.functions.Entry.{Entry}
use Rattle.ir_core.specs.declared.functions.Phi.{Phi}
use Rattle.ir_types.specs.declared.names.Name.{Name}
use Rattle.ir_types.specs.declared.ty.Ty.{Ty}
use Rattle.ir_core.specs.declared.values.Kind.{Kind}
use Rattle.ir_core.specs.declared.values.Value.{Value}
use Rattle.ir_core.specs.declared.values.Value.TheVariants.{Poison}
use Rattle.ir_types.specs.Same.{same_name}
use Rattle.ir_core.specs.Types.{kind_of, number_at}
use Rattle.ir_values.specs.Constants.{Scope}
use Rattle.ir_values.specs.Values.{IsInKindOf}
use Rattle.ir_values.proofs.KindLaws.{poison_in_kind}
use Rattle.ir_machine.specs.Machine.{block_named, case_of, entry_from, phi_value, with_phis}
use Rattle.ir_machine.specs.Registers.{Registers, atom_value, read, set}
use Rattle.ir_machine.proofs.Standing.{drop_at}

-- ---- the first that passes a test

find_first : {A : Type 0} (test : A → Bool) (x : A) (xs : List A) → test x ≡ true → find test (x ∷ xs) ≡ Some x
find_first test x xs is = rw is refl

find_other : {A : Type 0} (test : A → Bool) (x : A) (xs : List A) → test x ≡ false → find test (x ∷ xs) ≡ find test xs
find_other test x xs is = rw is refl

found_here : {A : Type 0} (test : A → Bool) (xs : List A) (i : ℕ) (x : A) → i < length xs → x ≡ get_or xs i x → test x ≡ true → find test (drop i xs) ≡ Some x
found_here test xs i x within is passes = ap (find test) (drop_at xs i x within is) ∙ find_first test x (drop (i + 1) xs) passes

found_later : {A : Type 0} (test : A → Bool) (xs : List A) (i : ℕ) (x : A) → i < length xs → x ≡ get_or xs i x → test x ≡ false → find test (drop i xs) ≡ find test (drop (i + 1) xs)
found_later test xs i x within is fails = ap (find test) (drop_at xs i x within is) ∙ find_other test x (drop (i + 1) xs) fails

pub block_here : (x : Name) (bs : List Block) (i : ℕ) (b : Block) → i < length bs → b ≡ get_or bs i b → same_name b.name x ≡ true → block_named x (drop i bs) ≡ slice_get bs i
block_here x bs i b within is same = found_here (λ (b : Block). same_name b.name x) bs i b within is same ∙ sym (slice_get-get_or bs i b within ∙ ap Some (sym is))

pub block_later : (x : Name) (bs : List Block) (i : ℕ) (b : Block) → i < length bs → b ≡ get_or bs i b → same_name b.name x ≡ false → block_named x (drop i bs) ≡ block_named x (drop (i + 1) bs)
block_later x bs i b within is other = found_later (λ (b : Block). same_name b.name x) bs i b within is other

pub entry_here : (x : Name) (es : List Entry) (i : ℕ) (e : Entry) → i < length es → e ≡ get_or es i e → same_name e.from x ≡ true → entry_from x (drop i es) ≡ Some e
entry_here x es i e within is same = found_here (λ (e : Entry). same_name e.from x) es i e within is same

pub entry_later : (x : Name) (es : List Entry) (i : ℕ) (e : Entry) → i < length es → e ≡ get_or es i e → same_name e.from x ≡ false → entry_from x (drop i es) ≡ entry_from x (drop (i + 1) es)
entry_later x es i e within is other = found_later (λ (e : Entry). same_name e.from x) es i e within is other

-- ---- phis

pub phi_here : (scope : Scope) (old : Registers) (from : Name) (p : Phi) (e : Entry) → entry_from from p.entries ≡ Some e
    → phi_value scope old from p ≡ atom_value scope (read old) p.ty e.value
phi_here scope old from p e is = rw is refl

pub phi_nowhere : (scope : Scope) (old : Registers) (from : Name) (p : Phi) → entry_from from p.entries ≡ None → phi_value scope old from p ≡ Poison
phi_nowhere scope old from p is = rw is refl

-- poison is of every kind
pub poison_in_kind_of : (k : Option Kind) → IsInKindOf k Poison
poison_in_kind_of None = tt
poison_in_kind_of (Some k) = poison_in_kind k

pub next_phi : (scope : Scope) (old : Registers) (from : Name) (ps : List Phi) (i : ℕ) (p : Phi) (registers : Registers) (v : Value) → i < length ps → p ≡ get_or ps i p
    → v ≡ phi_value scope old from p
    → with_phis scope old from (drop i ps) registers ≡ with_phis scope old from (drop (i + 1) ps) (set registers p.name (kind_of p.ty) v)
next_phi scope old from ps i p registers v within is gives = ap (λ (l : List Phi). with_phis scope old from l registers) (drop_at ps i p within is)
    ∙ ap (λ (v : Value). with_phis scope old from (drop (i + 1) ps) (set registers p.name (kind_of p.ty) v)) (sym gives)

-- ---- cases

first_case : (t : Ty) (default : Name) (c : Case) (cs : List Case) (n : ℕ) → nat_eq (number_at t c.number) n ≡ true → case_of t default (c ∷ cs) n ≡ c.label
first_case t default c cs n is = rw is refl

other_case : (t : Ty) (default : Name) (c : Case) (cs : List Case) (n : ℕ) → nat_eq (number_at t c.number) n ≡ false → case_of t default (c ∷ cs) n ≡ case_of t default cs n
other_case t default c cs n is = rw is refl

pub case_here : (t : Ty) (default : Name) (cs : List Case) (i : ℕ) (c : Case) (n : ℕ) → i < length cs → c ≡ get_or cs i c → nat_eq (number_at t c.number) n ≡ true
    → case_of t default (drop i cs) n ≡ c.label
case_here t default cs i c n within is same = ap (λ (l : List Case). case_of t default l n) (drop_at cs i c within is) ∙ first_case t default c (drop (i + 1) cs) n same

pub case_later : (t : Ty) (default : Name) (cs : List Case) (i : ℕ) (c : Case) (n : ℕ) → i < length cs → c ≡ get_or cs i c → nat_eq (number_at t c.number) n ≡ false
    → case_of t default (drop i cs) n ≡ case_of t default (drop (i + 1) cs) n
case_later t default cs i c n within is other = ap (λ (l : List Case). case_of t default l n) (drop_at cs i c within is) ∙ other_case t default c (drop (i + 1) cs) n other

abbrev pub labels_in : List Case → List Name
labels_in cs = map (λ (c : Case). c.label) cs

first_label : (x : Name) (c : Case) (cs : List Case) → same_name x c.label ≡ true → list_any (same_name x) (labels_in (c ∷ cs)) ≡ true
first_label x c cs is = rw is refl

other_label : (x : Name) (c : Case) (cs : List Case) → same_name x c.label ≡ false → list_any (same_name x) (labels_in (c ∷ cs)) ≡ list_any (same_name x) (labels_in cs)
other_label x c cs is = rw is refl

pub label_here : (x : Name) (cs : List Case) (i : ℕ) (c : Case) → i < length cs → c ≡ get_or cs i c → same_name x c.label ≡ true → list_any (same_name x) (labels_in (drop i cs)) ≡ true
label_here x cs i c within is same = ap (λ (l : List Case). list_any (same_name x) (labels_in l)) (drop_at cs i c within is) ∙ first_label x c (drop (i + 1) cs) same

pub label_later : (x : Name) (cs : List Case) (i : ℕ) (c : Case) → i < length cs → c ≡ get_or cs i c → same_name x c.label ≡ false
    → list_any (same_name x) (labels_in (drop i cs)) ≡ list_any (same_name x) (labels_in (drop (i + 1) cs))
label_later x cs i c within is other = ap (λ (l : List Case). list_any (same_name x) (labels_in l)) (drop_at cs i c within is) ∙ other_label x c (drop (i + 1) cs) other

-- ---- numbers at a width

pub one_shifted : (width : ℕ) → width < 64 → (1 * 2 ^ width) % 2 ^ 64 ≡ 2 ^ width
one_shifted width h = one_shl width 64 h

pub stays : (n width : ℕ) → n < 2 ^ 64 → 64 ≤ width → n % 2 ^ width ≡ n
stays n width h wide =
    let more : 2 ^ 64 ≤ 2 ^ width = pow-le-pow_right (lit< tt) wide in
    let less : n < 2 ^ width = omega arith in
    mod-eq_of_lt less
