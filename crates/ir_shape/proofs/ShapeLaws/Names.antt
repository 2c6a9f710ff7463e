-- The names of functions in the order of the file, and that it doesn't matter for names to be new in which order they stand.
use Rattle.std.proofs.Common.{◌≡◌, ◌∙◌, ⊎_elim, ℕ, ◌+◌, ◌≤◌, Bool, true, false, cond, nat_le, List, [], ◌∷◌, ◌++◌, map, refl, sym, ap, subst, arith}
use Rattle.std.proofs.lemmas.List.Elements.{Contains-append_left, Contains-push, Contains-push_cases}
use Rattle.std.specs.List.{Contains}
use Rattle.ir_core.specs.declared.functions.Function.{Function}
use Rattle.ir_core.specs.declared.modules.Declaration.{Declaration}
use Rattle.ir_core.specs.declared.modules.GlobalVar.{GlobalVar}
use Rattle.ir_core.specs.declared.modules.Module.{Module}
use Rattle.ir_types.specs.declared.names.Name.{Name}
use Rattle.ir_types.specs.NameLaws.{same_name_refl, same_name_true}
use Rattle.ir_types.specs.Same.{same_name}
use Rattle.ir_core.specs.Functions.{function_names}
use Rattle.ir_core.specs.Modules.{those_before, those_behind}
use Rattle.ir_core.specs.Order.{AreNew}
use Rattle.ir_core.specs.Typing.{Signature, declared_signature, defined_signature, signatures_of}
use Rattle.ir_core.specs.WellFormed.{global_names}
use Rattle.ir_shape.specs.ShapeTests.Kinds.{count_of}
use Rattle.ir_shape.proofs.ShapeTests.Entries.{count_cons}

-- ---- how often names stand

count_self : (x : Name) (xs : List Name) → count_of x (x ∷ xs) ≡ 1 + count_of x xs
count_self x xs = count_cons x x xs ∙ ap (λ b. cond b 1 0 + count_of x xs) (same_name_refl x)

pub counts_joined : (n : Name) (xs ys : List Name) → count_of n (xs ++ ys) ≡ count_of n xs + count_of n ys
counts_joined n [] ys = omega arith
counts_joined n (x ∷ xs) ys = omega (arith, count_cons n x (xs ++ ys), count_cons n x xs, counts_joined n xs ys)

-- no name stands twice
abbrev pub OnceAtMost : List Name → Type 0
OnceAtMost xs = (n : Name) → count_of n xs ≤ 1

-- of new names none is taken, and each stands once
taken_and_once : (taken xs : List Name) → AreNew taken xs → (n : Name) → (Contains taken n → count_of n xs ≡ 0) × (count_of n xs ≤ 1)
taken_and_once taken [] new n = (λ there. refl, omega arith)
taken_and_once taken (x ∷ xs) new n = go (same_name n x) refl (taken_and_once (taken ++ x ∷ []) xs new.1 n)
  where
    go : (b : Bool) → same_name n x ≡ b → (Contains (taken ++ x ∷ []) n → count_of n xs ≡ 0) × (count_of n xs ≤ 1)
        → (Contains taken n → count_of n (x ∷ xs) ≡ 0) × (count_of n (x ∷ xs) ≤ 1)
    go true same more =
        let is : n ≡ x = same_name_true n x same in
        let one : count_of n (x ∷ xs) ≡ 1 + count_of n xs = count_cons n x xs ∙ ap (λ b. cond b 1 0 + count_of n xs) same in
        let none : count_of n xs ≡ 0 = more.0 (subst (Contains (taken ++ x ∷ [])) (sym is) (Contains-push taken x)) in
        (λ there. absurd (new.0 (subst (Contains taken) is there)), omega (arith, one, none))
    go false other more =
        let less : count_of n (x ∷ xs) ≡ count_of n xs = count_cons n x xs ∙ ap (λ b. cond b 1 0 + count_of n xs) other ∙ omega arith in
        (λ there. less ∙ more.0 (Contains-append_left taken (x ∷ []) n there), omega (arith, less, more.1))

pub once : (xs : List Name) → AreNew [] xs → OnceAtMost xs
once xs new n = (taken_and_once [] xs new n).1

-- names that stand once, none of which is taken, are new
new_where : (taken xs : List Name) → OnceAtMost xs → ((n : Name) → Contains taken n → count_of n xs ≡ 0) → AreNew taken xs
new_where taken [] single free = tt
new_where taken (x ∷ xs) single free = (
  λ there. absurd (omega (arith, free x there, count_self x xs)),
  new_where (taken ++ x ∷ []) xs (λ n. omega (arith, single n, count_cons n x xs))
      (λ n there. ⊎_elim (λ old. omega (arith, free n old, count_cons n x xs))
      (λ (is : x ≡ n). subst (λ m. count_of m xs ≡ 0) is (omega (arith, single x, count_self x xs))) (Contains-push_cases taken x n there)),
)

pub new_once : (xs : List Name) → OnceAtMost xs → AreNew [] xs
new_once xs single = new_where [] xs single (λ n there. absurd (omega (arith, there.1)))

-- the same names in another order
pub in_any_order : (xs ys : List Name) → ((n : Name) → count_of n ys ≡ count_of n xs) → AreNew [] xs → AreNew [] ys
in_any_order xs ys same new = new_once ys (λ n. omega (arith, same n, once xs new n))

-- ---- the order of the file

abbrev pub declared_names : List Declaration → List Name
declared_names = map (λ (d : Declaration). d.name)

-- those before a definition and those behind it are all
pub parted : (count : ℕ) (ds : List Declaration) → those_before count ds ++ those_behind count ds ≡ ds
parted count [] = refl
parted count (d ∷ ds) = go (nat_le d.before count) (parted count ds)
  where
    go : (b : Bool) → those_before count ds ++ those_behind count ds ≡ ds → cond b (d ∷ those_before count ds) [] ++ cond b (those_behind count ds) (d ∷ ds) ≡ d ∷ ds
    go true more = ap (λ (es : List Declaration). d ∷ es) more
    go false more = refl

-- the names of definitions and declarations as they stand in the file, from the definition of that number on
abbrev pub names_in_file : ℕ → List Declaration → List Function → List Name
names_in_file count ds [] = declared_names ds
names_in_file count ds (f ∷ fs) = declared_names (those_before count ds) ++ (f.name ∷ names_in_file (count + 1) (those_behind count ds) fs)

declared_joined : (ds es : List Declaration) → declared_names (ds ++ es) ≡ declared_names ds ++ declared_names es
declared_joined [] es = refl
declared_joined (d ∷ ds) es = ap (λ ns. d.name ∷ ns) (declared_joined ds es)

-- each stands as often among the definitions and then the declarations
pub counted_in_file : (n : Name) (count : ℕ) (ds : List Declaration) (fs : List Function)
    → count_of n (names_in_file count ds fs) ≡ count_of n (map (λ (f : Function). f.name) fs ++ declared_names ds)
counted_in_file n count ds [] = refl
counted_in_file n count ds (f ∷ fs) =
    let before = those_before count ds in
    let behind = those_behind count ds in
    let names = map (λ (g : Function). g.name) fs in
    let rest = names_in_file (count + 1) behind fs in
    let all : count_of n (declared_names ds) ≡ count_of n (declared_names before) + count_of n (declared_names behind) =
    ap (λ (es : List Declaration). count_of n (declared_names es)) (sym (parted count ds)) ∙ ap (count_of n) (declared_joined before behind) ∙ counts_joined n (declared_names before) (declared_names behind) in
    omega (
      arith,
      counts_joined n (declared_names before) (f.name ∷ rest),
      count_cons n f.name rest,
      counted_in_file n (count + 1) behind fs,
      counts_joined n names (declared_names behind),
      all,
      count_cons n f.name (names ++ declared_names ds),
      counts_joined n names (declared_names ds),
    )

-- ---- the names of a module

-- behind the globals, in the order of the file
abbrev pub in_file : Module → List Name
in_file m = names_in_file 0 m.declarations m.functions

abbrev pub others : Module → List Name
others m = function_names m ++ declared_names m.declarations

pub file_new : (globals : List Name) (m : Module) → AreNew [] (globals ++ in_file m) → AreNew [] (globals ++ others m)
file_new globals m = in_any_order (globals ++ in_file m) (globals ++ others m)
    (λ n. omega (arith, counts_joined n globals (in_file m), counts_joined n globals (others m), counted_in_file n 0 m.declarations m.functions))

pub new_in_file : (globals : List Name) (m : Module) → AreNew [] (globals ++ others m) → AreNew [] (globals ++ in_file m)
new_in_file globals m = in_any_order (globals ++ others m) (globals ++ in_file m)
    (λ n. omega (arith, counts_joined n globals (in_file m), counts_joined n globals (others m), counted_in_file n 0 m.declarations m.functions))

-- ---- what can be called

-- the functions that can be called have the names of the definitions and declarations
signature_names : (fs : List Function) (ds : List Declaration)
    → map (λ (s : Name × Signature). s.0) (map (λ (f : Function). (f.name, defined_signature f)) fs ++ map (λ (d : Declaration). (d.name, declared_signature d)) ds)
    ≡ map (λ (f : Function). f.name) fs ++ declared_names ds
signature_names [] [] = refl
signature_names [] (d ∷ ds) = ap (λ ns. d.name ∷ ns) (signature_names [] ds)
signature_names (f ∷ fs) ds = ap (λ ns. f.name ∷ ns) (signature_names fs ds)

-- where all names of a module are new, those are
pub signatures_apart : (m : Module) → AreNew [] (global_names m) → AreNew [] (map (λ (s : Name × Signature). s.0) (signatures_of m))
signatures_apart m new =
    let globals = map (λ (g : GlobalVar). g.name) m.globals in
    subst (AreNew []) (sym (signature_names m.functions m.declarations))
    (new_once (others m) (λ n. omega (arith, once (globals ++ others m) new n, counts_joined n globals (others m))))
