-- Under other names a function has the shape that it had.
use Rattle.std.proofs.Common.{◌≡◌, ◌∙◌, ⊎_elim, Bool, true, false, cond, List, [], ◌∷◌, ◌++◌, map, refl, sym, ap, subst}
use Rattle.std.proofs.lemmas.List.{map-append}
use Rattle.std.proofs.lemmas.List.Elements.{Contains-append_left, Contains-append_right}
use Rattle.std.proofs.lemmas.List.Sorted.{Contains-permutation, IsPermutation-sym}
use Rattle.std.specs.List.{AllByRecursion, Contains, filter, flat_map}
use Rattle.ir_core.specs.declared.expressions.Expr.{Expr}
use Rattle.ir_core.specs.declared.expressions.Expr.TheVariants as expr
use Rattle.ir_core.specs.declared.functions.Argument.{Argument}
use Rattle.ir_core.specs.declared.functions.Block.{Block}
use Rattle.ir_core.specs.declared.functions.Case.{Case}
use Rattle.ir_core.specs.declared.functions.Entry.{Entry}
use Rattle.ir_core.specs.declared.functions.Function.{Function}
use Rattle.ir_core.specs.declared.functions.Instr.{Instr}
use Rattle.ir_core.specs.declared.functions.Instr.TheVariants as instr
use Rattle.ir_core.specs.declared.functions.Param.{Param}
use Rattle.ir_core.specs.declared.functions.Phi.{Phi}
use Rattle.ir_core.specs.declared.functions.Term.{Term}
use Rattle.ir_core.specs.declared.functions.Term.TheVariants as term
use Rattle.ir_core.specs.declared.modules.Module.{Module}
use Rattle.ir_core.specs.declared.operands.Atom.{Atom}
use Rattle.ir_core.specs.declared.operands.Atom.TheVariants.{Constant, Register}
use Rattle.ir_core.specs.declared.operands.Operand.{Operand}
use Rattle.ir_types.specs.declared.names.Name.{Name}
use Rattle.ir_types.specs.declared.ty.Ty.{Ty}
use Rattle.ir_types.specs.NameLaws.{same_name_refl}
use Rattle.ir_types.specs.Same.{same_name}
use Rattle.ir_core.specs.Expressions.{map_atom, map_operand}
use Rattle.ir_core.specs.Functions.{block_names, edges_into, names_in, names_of, operands_at_end, operands_in_block, operands_of, operands_of_phi, params_of, phi_registers, registers_of, set_by, successors_of, typed_of}
use Rattle.ir_core.specs.WellFormed.{FitsEdges, HasBlockShape, HasFunctionShape, HasType}
use Rattle.ir_rename.specs.Renamed.{IsInjectiveOn, rename_argument, rename_block, rename_case, rename_entry, rename_function, rename_line, rename_param, rename_phi, rename_term}
use Rattle.ir_rename.proofs.Apart.{AreApart}
pub use Rattle.ir_rename.proofs.Renames.{typed}
use Rattle.ir_rename.proofs.Renames.{line_types}
use Rattle.ir_rename.proofs.Lists.{all_to, append_cases, behind, cases, differ, here, none_in, same_or}

-- ---- lists under a word

pub in_mapped : {A B : Type 0} (h : A → B) (xs : List A) (x : A) → Contains xs x → Contains (map h xs) (h x)
in_mapped h [] x there = absurd (none_in x there)
in_mapped h (y ∷ xs) x there =
    ⊎_elim
    (λ e. subst (Contains (map h (y ∷ xs))) (ap h e) (here (h y) (map h xs)))
    (λ more. behind (h y) (h x) (map h xs) (in_mapped h xs x more))
    (cases y x xs there)

pub from_mapped : {A B : Type 0} (h : A → B) (xs : List A) (y : B) → Contains (map h xs) y → (x : A) × Contains xs x × (h x ≡ y)
from_mapped h [] y there = absurd (none_in y there)
from_mapped h (x ∷ xs) y there =
    ⊎_elim
    (λ e. (x, here x xs, e))
    (λ more. let found = from_mapped h xs y more in (found.0, behind x found.0 xs found.1, found.2))
    (cases (h x) y (map h xs) there)

in_flat : {A B : Type 0} (h : A → List B) (xs : List A) (x : A) (y : B) → Contains xs x → Contains (h x) y → Contains (flat_map h xs) y
in_flat h [] x y there inside = absurd (none_in x there)
in_flat h (z ∷ xs) x y there inside =
    ⊎_elim
    (λ e. Contains-append_left (h z) (flat_map h xs) y (subst (λ w. Contains (h w) y) (sym e) inside))
    (λ more. Contains-append_right (h z) (flat_map h xs) y (in_flat h xs x y more inside))
    (cases z x xs there)

from_flat : {A B : Type 0} (h : A → List B) (xs : List A) (y : B) → Contains (flat_map h xs) y → (x : A) × Contains xs x × Contains (h x) y
from_flat h [] y there = absurd (none_in y there)
from_flat h (x ∷ xs) y there =
    ⊎_elim
    (λ one. (x, here x xs, one))
    (λ more. let found = from_flat h xs y more in (found.0, behind x found.0 xs found.1, found.2))
    (append_cases (h x) (flat_map h xs) y there)

pub all_under : {A B : Type 0} (P : A → Type 0) (Q : B → Type 0) (h : A → B) → ((x : A) → P x → Q (h x)) → (xs : List A) → AllByRecursion P xs → AllByRecursion Q (map h xs)
all_under P Q h over [] all = tt
all_under P Q h over (x ∷ xs) all = (over x all.0, all_under P Q h over xs all.1)

pub twice : {A B C : Type 0} (h : B → C) (k : A → B) (l : A → C) → ((x : A) → h (k x) ≡ l x) → (xs : List A) → map h (map k xs) ≡ map l xs
twice h k l same [] = refl
twice h k l same (x ∷ xs) = ap (λ y. y ∷ map h (map k xs)) (same x) ∙ ap (λ ys. l x ∷ ys) (twice h k l same xs)

-- lists of lists, where each is the other one under a word
flat_under : {A B C : Type 0} (h : A → List B) (k : A → A) (w : C → B) (l : A → List C) (xs : List A) → ((x : A) → Contains xs x → h (k x) ≡ map w (l x)) → flat_map h (map k xs) ≡ map w (flat_map l xs)
flat_under h k w l [] same = refl
flat_under h k w l (x ∷ xs) same =
    ap (λ ys. ys ++ flat_map h (map k xs)) (same x (here x xs))
    ∙ ap (λ ys. map w (l x) ++ ys) (flat_under h k w l xs (λ y there. same y (behind x y xs there)))
    ∙ sym (map-append w (l x) (flat_map l xs))

pub apart_mapped : (ρ : Name → Name) (xs : List Name) → IsInjectiveOn xs ρ → AreApart xs → AreApart (map ρ xs)
apart_mapped ρ [] one apart = tt
apart_mapped ρ (x ∷ xs) one apart = (
  λ there.
      let found = from_mapped ρ xs (ρ x) there in
      apart.0 (subst (Contains xs) (one found.0 x (behind x found.0 xs found.1) (here x xs) found.2) found.1),
  apart_mapped ρ xs (λ a b in_a in_b e. one a b (behind x a xs in_a) (behind x b xs in_b) e) apart.1,
)

-- ---- registers, with their types

phi_types : (ρ : Name → Name) (ps : List Phi) → phi_registers (map (rename_phi ρ) ps) ≡ map (typed ρ) (phi_registers ps)
phi_types ρ [] = refl
phi_types ρ (p ∷ ps) = ap (λ (rs : List (Name × Ty)). (ρ p.name, p.ty) ∷ rs) (phi_types ρ ps)

param_types : (ρ : Name → Name) (ps : List Param) → map (λ (p : Param). (p.name, p.ty)) (map (rename_param ρ) ps) ≡ map (typed ρ) (map (λ (p : Param). (p.name, p.ty)) ps)
param_types ρ [] = refl
param_types ρ (p ∷ ps) = ap (λ (rs : List (Name × Ty)). (ρ p.name, p.ty) ∷ rs) (param_types ρ ps)

pub block_types : (ρ : Name → Name) (b : Block) → registers_of (rename_block ρ b) ≡ map (typed ρ) (registers_of b)
block_types ρ b =
    ap (λ rs. rs ++ set_by (map (rename_line ρ) b.body)) (phi_types ρ b.phis)
    ∙ ap (λ rs. map (typed ρ) (phi_registers b.phis) ++ rs) (line_types ρ b.body)
    ∙ sym (map-append (typed ρ) (phi_registers b.phis) (set_by b.body))

pub all_types : (ρ : Name → Name) (f : Function) → typed_of (rename_function ρ f) ≡ map (typed ρ) (typed_of f)
all_types ρ f =
    ap (λ rs. rs ++ flat_map registers_of (map (rename_block ρ) f.blocks)) (param_types ρ f.params)
    ∙ ap (λ rs. map (typed ρ) (params_of f) ++ rs) (flat_under registers_of (rename_block ρ) (typed ρ) registers_of f.blocks (λ b there. block_types ρ b))
    ∙ sym (map-append (typed ρ) (params_of f) (flat_map registers_of f.blocks))

-- ---- operands

argument_operands : (ρ : Name → Name) (xs : List Argument)
    → map (λ (a : Argument). a.operand) (map (rename_argument ρ) xs) ≡ map (map_operand ρ) (map (λ (a : Argument). a.operand) xs)
argument_operands ρ [] = refl
argument_operands ρ (x ∷ xs) = ap (λ os. map_operand ρ x.operand ∷ os) (argument_operands ρ xs)

pub line_operands : (ρ : Name → Name) (l : Instr) → operands_of (rename_line ρ l) ≡ map (map_operand ρ) (operands_of l)
line_operands ρ (instr.Calm c) = by c.right
  where
    by : (e : Expr Name) → operands_of (rename_line ρ (instr.Calm (record { name = c.name; right = e }))) ≡ map (map_operand ρ) (operands_of (instr.Calm (record { name = c.name; right = e })))
    by (expr.Plain o) = refl
    by (expr.Binary b) = refl
    by (expr.Icmp i) = refl
    by (expr.Cast x) = refl
    by (expr.Select s) = refl
    by (expr.Element e) = refl
    by (expr.Load l) = refl
line_operands ρ (instr.Alloca a) = refl
line_operands ρ (instr.Store s) = refl
line_operands ρ (instr.Call c) = argument_operands ρ c.arguments

pub end_operands : (ρ : Name → Name) (t : Term) → operands_at_end (rename_term ρ t) ≡ map (map_operand ρ) (operands_at_end t)
end_operands ρ (term.Ret operand) = refl
end_operands ρ term.RetVoid = refl
end_operands ρ (term.Br label) = refl
end_operands ρ (term.CondBr c) = refl
end_operands ρ (term.Switch s) = refl
end_operands ρ term.Unreachable = refl

pub phi_operands : (ρ : Name → Name) (p : Phi) → operands_of_phi (rename_phi ρ p) ≡ map (map_operand ρ) (operands_of_phi p)
phi_operands ρ p = along p.entries
  where
    along : (es : List Entry) → map (λ (e : Entry). record { ty = p.ty; atom = e.value }) (map (rename_entry ρ) es) ≡ map (map_operand ρ) (map (λ (e : Entry). record { ty = p.ty; atom = e.value }) es)
    along [] = refl
    along (e ∷ es) = ap (λ (os : List (Operand Name)). record { ty = p.ty; atom = map_atom ρ e.value } ∷ os) (along es)

block_operands : (ρ : Name → Name) (b : Block) → operands_in_block (rename_block ρ b) ≡ map (map_operand ρ) (operands_in_block b)
block_operands ρ b =
    let w = map_operand ρ in
    let phis = flat_under operands_of_phi (rename_phi ρ) w operands_of_phi b.phis (λ p there. phi_operands ρ p) in
    let lines = flat_under operands_of (rename_line ρ) w operands_of b.body (λ l there. line_operands ρ l) in
    let behind_phis = flat_map operands_of b.body ++ operands_at_end b.term in
    ap (λ os. os ++ (flat_map operands_of (map (rename_line ρ) b.body) ++ operands_at_end (rename_term ρ b.term))) phis
    ∙ ap (λ os. map w (flat_map operands_of_phi b.phis) ++ (os ++ operands_at_end (rename_term ρ b.term))) lines
    ∙ ap (λ os. map w (flat_map operands_of_phi b.phis) ++ (map w (flat_map operands_of b.body) ++ os)) (end_operands ρ b.term)
    ∙ ap (λ os. map w (flat_map operands_of_phi b.phis) ++ os) (sym (map-append w (flat_map operands_of b.body) (operands_at_end b.term)))
    ∙ sym (map-append w (flat_map operands_of_phi b.phis) behind_phis)

pub all_operands : (ρ : Name → Name) (f : Function) → flat_map operands_in_block (map (rename_block ρ) f.blocks) ≡ map (map_operand ρ) (flat_map operands_in_block f.blocks)
all_operands ρ f = flat_under operands_in_block (rename_block ρ) (map_operand ρ) operands_in_block f.blocks (λ b there. block_operands ρ b)

pub typed_operand : (m : Module) (ρ : Name → Name) (rs : List (Name × Ty)) (t : Ty) (a : Atom Name) → HasType m rs t a → HasType m (map (typed ρ) rs) t (map_atom ρ a)
typed_operand m ρ rs t (Constant c) has = has
typed_operand m ρ rs t (Register n) has = in_mapped (typed ρ) rs (n, t) has

-- ---- edges

pub successors : (ρ : Name → Name) (t : Term) → successors_of (rename_term ρ t) ≡ map ρ (successors_of t)
successors ρ (term.Ret operand) = refl
successors ρ term.RetVoid = refl
successors ρ (term.Br label) = refl
successors ρ (term.CondBr c) = refl
successors ρ (term.Switch s) = ap (λ ls. ρ s.default ∷ ls) (labels s.cases)
  where
    labels : (cs : List Case) → map (λ (c : Case). c.label) (map (rename_case ρ) cs) ≡ map ρ (map (λ (c : Case). c.label) cs)
    labels [] = refl
    labels (c ∷ cs) = ap (λ ls. ρ c.label ∷ ls) (labels cs)
successors ρ term.Unreachable = refl

-- each name to which it leads is one of these
abbrev pub Knows : List Name → Block → Type 0
Knows names b = (s : Name) → Contains (successors_of b.term) s → Contains names s

same_kept : (ρ : Name → Name) (names : List Name) → IsInjectiveOn names ρ → (n x : Name) → Contains names n → Contains names x → same_name (ρ n) (ρ x) ≡ same_name n x
same_kept ρ names one n x in_n in_x =
    ⊎_elim
    (λ e. ap (λ y. same_name (ρ n) (ρ y)) (sym e) ∙ same_name_refl (ρ n) ∙ sym (ap (same_name n) (sym e) ∙ same_name_refl n))
    (λ e. differ (ρ n) (ρ x) (λ same. let yes : same_name n x ≡ true = ap (same_name n) (sym (one n x in_n in_x same)) ∙ same_name_refl n in cc) ∙ sym e)
    (same_or n x)

entered : (ρ : Name → Name) (names : List Name) → IsInjectiveOn names ρ → (n m : Name) → Contains names n → (xs : List Name) → ((x : Name) → Contains xs x → Contains names x)
    → map (λ (y : Name). ρ m) (filter (same_name (ρ n)) (map ρ xs)) ≡ map ρ (map (λ (y : Name). m) (filter (same_name n) xs))
entered ρ names one n m in_n [] known = refl
entered ρ names one n m in_n (x ∷ xs) known =
    ap (λ b. map (λ (y : Name). ρ m) (cond b (ρ x ∷ filter (same_name (ρ n)) (map ρ xs)) (filter (same_name (ρ n)) (map ρ xs)))) (same_kept ρ names one n x in_n (known x (here x xs)))
    ∙ by (same_name n x) (entered ρ names one n m in_n xs (λ y there. known y (behind x y xs there)))
  where
    by : (b : Bool) → map (λ (y : Name). ρ m) (filter (same_name (ρ n)) (map ρ xs)) ≡ map ρ (map (λ (y : Name). m) (filter (same_name n) xs))
        → map (λ (y : Name). ρ m) (cond b (ρ x ∷ filter (same_name (ρ n)) (map ρ xs)) (filter (same_name (ρ n)) (map ρ xs))) ≡ map ρ (map (λ (y : Name). m) (cond b (x ∷ filter (same_name n) xs) (filter (same_name n) xs)))
    by true more = ap (λ ys. ρ m ∷ ys) more
    by false more = more

pub edges : (ρ : Name → Name) (f : Function) → IsInjectiveOn (names_of f) ρ → ((b : Block) → Contains f.blocks b → Knows (names_of f) b) → (n : Name) → Contains (names_of f) n → edges_into (rename_function ρ f) (ρ n) ≡ map ρ (edges_into f n)
edges ρ f one known n in_n =
    flat_under (λ (b : Block). map (λ (x : Name). b.name) (filter (same_name (ρ n)) (successors_of b.term))) (rename_block ρ) ρ (λ (b : Block). map (λ (x : Name). b.name) (filter (same_name n) (successors_of b.term))) f.blocks
    (λ b there.
    ap (λ xs. map (λ (x : Name). ρ b.name) (filter (same_name (ρ n)) xs)) (successors ρ b.term)
    ∙ entered ρ (names_of f) one n b.name in_n (successors_of b.term) (known b there))

-- ---- what is known of names

pub block_in : (f : Function) (b : Block) → Contains f.blocks b → Contains (names_of f) b.name
block_in f b there =
    Contains-append_right (names_in (params_of f)) (flat_map block_names f.blocks) b.name
    (in_flat block_names f.blocks b b.name there (here b.name (names_in (registers_of b))))

pub knows_labels : (m : Module) (f : Function) → HasFunctionShape m f → (b : Block) → Contains f.blocks b → Knows (names_of f) b
knows_labels m f shape b there s leads =
    let label = all_to (Contains (map (λ (c : Block). c.name) f.blocks)) (successors_of b.term) (all_to (HasBlockShape m f) f.blocks shape.each b there).labels s leads in
    let found = from_mapped (λ (c : Block). c.name) f.blocks s label in subst (Contains (names_of f)) found.2 (block_in f found.0 found.1)

edge_in : (f : Function) (n x : Name) → Contains (edges_into f n) x → Contains (names_of f) x
edge_in f n x there =
    let found = from_flat (λ (b : Block). map (λ (y : Name). b.name) (filter (same_name n) (successors_of b.term))) f.blocks x there in
    let is = from_mapped (λ (y : Name). found.0.name) (filter (same_name n) (successors_of found.0.term)) x found.2 in
    subst (Contains (names_of f)) is.2 (block_in f found.0 found.1)

pub from_in : (f : Function) (b : Block) (p : Phi) → FitsEdges f b p → (e : Entry) → Contains p.entries e → Contains (names_of f) e.from
from_in f b p fits e there =
    edge_in f b.name e.from
    (Contains-permutation (map (λ (d : Entry). d.from) p.entries) (edges_into f b.name) e.from (IsPermutation-sym (edges_into f b.name) (map (λ (d : Entry). d.from) p.entries) fits.edges) (in_mapped (λ (d : Entry). d.from) p.entries e there))
