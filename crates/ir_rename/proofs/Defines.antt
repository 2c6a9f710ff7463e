-- Under other names, what a function uses is defined where it was.
use Rattle.std.proofs.Common.{◌≡◌, ◌∙◌, List, [], ◌∷◌, ◌++◌, map, refl, sym, ap, subst}
use Rattle.std.proofs.lemmas.List.{map-append}
use Rattle.std.specs.List.{AllByRecursion, Contains}
use Rattle.ir_core.specs.declared.functions.Block.{Block}
use Rattle.ir_core.specs.declared.functions.Entry.{Entry}
use Rattle.ir_core.specs.declared.functions.Function.{Function}
use Rattle.ir_core.specs.declared.functions.Instr.{Instr}
use Rattle.ir_core.specs.declared.functions.Phi.{Phi}
use Rattle.ir_core.specs.declared.functions.Term.{Term}
use Rattle.ir_core.specs.declared.modules.Module.{Module}
use Rattle.ir_core.specs.declared.operands.Atom.{Atom}
use Rattle.ir_core.specs.declared.operands.Atom.TheVariants.{Constant, Register}
use Rattle.ir_core.specs.declared.operands.Operand.{Operand}
use Rattle.ir_types.specs.declared.names.Name.{Name}
use Rattle.ir_core.specs.Expressions.{map_atom, map_operand}
use Rattle.ir_core.specs.Functions.{names_in, names_of, operands_at_end, operands_of, params_of, phi_registers, registers_of, set_by, successors_of}
use Rattle.ir_core.specs.WellFormed.{AllUseDefined, BlockUsesDefined, FitsEdges, HasBlockShape, HasFunctionShape, IsFunctionDefined, IsPath, LinesUseDefined, PathUsesDefined, PhisUseDefined, UsesDefined}
use Rattle.ir_rename.specs.Renamed.{IsInjectiveOn, IsRenamed, rename_block, rename_entry, rename_function, rename_line, rename_phi, rename_term}
use Rattle.ir_rename.proofs.Lists.{all_from, all_to, here}
use Rattle.ir_rename.proofs.Renames.{line_names, of_block_registers, param_names, phi_names}
use Rattle.ir_rename.proofs.Shaped.{all_under, block_in, end_operands, from_in, from_mapped, in_mapped, knows_labels, line_operands, successors}

-- ---- uses

uses : (ρ : Name → Name) (ds : List Name) (a : Atom Name) → UsesDefined ds a → UsesDefined (map ρ ds) (map_atom ρ a)
uses ρ ds (Constant c) does = does
uses ρ ds (Register n) does = in_mapped ρ ds n does

all_use : (ρ : Name → Name) (ds : List Name) (os : List (Operand Name)) → AllUseDefined ds os → AllUseDefined (map ρ ds) (map (map_operand ρ) os)
all_use ρ ds os all =
    all_under (λ (o : Operand Name). UsesDefined ds o.atom) (λ (o : Operand Name). UsesDefined (map ρ ds) o.atom) (map_operand ρ) (λ o does. uses ρ ds o.atom does) os all

-- those that are defined, and more
more : (ρ : Name → Name) (ds here there : List Name) → there ≡ map ρ here → map ρ ds ++ there ≡ map ρ (ds ++ here)
more ρ ds here there is = ap (λ ns. map ρ ds ++ ns) is ∙ sym (map-append ρ ds here)

lines_use : (ρ : Name → Name) (ls : List Instr) (t : Term) (ds es : List Name) → es ≡ map ρ ds → LinesUseDefined ds ls t → LinesUseDefined es (map (rename_line ρ) ls) (rename_term ρ t)
lines_use ρ [] t ds es is does =
    subst (λ ns. AllUseDefined ns (operands_at_end (rename_term ρ t))) (sym is)
    (subst (AllUseDefined (map ρ ds)) (sym (end_operands ρ t)) (all_use ρ ds (operands_at_end t) does))
lines_use ρ (l ∷ ls) t ds es is does = (
  subst (λ ns. AllUseDefined ns (operands_of (rename_line ρ l))) (sym is)
      (subst (AllUseDefined (map ρ ds)) (sym (line_operands ρ l)) (all_use ρ ds (operands_of l) does.0)),
  lines_use ρ ls t (ds ++ names_in (set_by (l ∷ []))) (es ++ names_in (set_by (rename_line ρ l ∷ [])))
      (ap (λ ns. ns ++ names_in (set_by (rename_line ρ l ∷ []))) is ∙ more ρ ds (names_in (set_by (l ∷ []))) (names_in (set_by (rename_line ρ l ∷ []))) (line_names ρ (l ∷ [])))
      does.1,
)

block_uses : (ρ : Name → Name) (b : Block) (ds es : List Name) → es ≡ map ρ ds → BlockUsesDefined ds b → BlockUsesDefined es (rename_block ρ b)
block_uses ρ b ds es is does =
    lines_use ρ b.body b.term (ds ++ names_in (phi_registers b.phis)) (es ++ names_in (phi_registers (map (rename_phi ρ) b.phis)))
    (ap (λ ns. ns ++ names_in (phi_registers (map (rename_phi ρ) b.phis))) is ∙ more ρ ds (names_in (phi_registers b.phis)) (names_in (phi_registers (map (rename_phi ρ) b.phis))) (phi_names ρ b.phis))
    does

-- ---- edges

phis_use : (m : Module) (ρ : Name → Name) (f : Function) → IsInjectiveOn (names_of f) ρ → HasFunctionShape m f → (b c : Block) → Contains f.blocks b → Contains f.blocks c → (ds es : List Name) → es ≡ map ρ ds → PhisUseDefined ds b.name c → PhisUseDefined es (ρ b.name) (rename_block ρ c)
phis_use m ρ f one shape b c in_b in_c ds es is does =
    all_from (λ (q : Phi). AllByRecursion (λ (e : Entry). e.from ≡ ρ b.name → UsesDefined es e.value) q.entries) (map (rename_phi ρ) c.phis)
    (λ q in_q.
    let p = from_mapped (rename_phi ρ) c.phis q in_q in
    subst (λ (r : Phi). AllByRecursion (λ (e : Entry). e.from ≡ ρ b.name → UsesDefined es e.value) r.entries) p.2
    (all_from (λ (e : Entry). e.from ≡ ρ b.name → UsesDefined es e.value) (map (rename_entry ρ) p.0.entries)
    (λ e in_e from.
    let d = from_mapped (rename_entry ρ) p.0.entries e in_e in
    let fit = all_to (FitsEdges f c) c.phis (all_to (HasBlockShape m f) f.blocks shape.each c in_c).phis p.0 p.1 in
    let own : d.0.from ≡ b.name = one d.0.from b.name (from_in f c p.0 fit d.0 d.1) (block_in f b in_b) (ap (λ (x : Entry). x.from) d.2 ∙ from) in
    let used = all_to (λ (x : Entry). x.from ≡ b.name → UsesDefined ds x.value) p.0.entries (all_to (λ (r : Phi). AllByRecursion (λ (x : Entry). x.from ≡ b.name → UsesDefined ds x.value) r.entries) c.phis does p.0 p.1) d.0 d.1 own in
    subst (λ (x : Entry). UsesDefined es x.value) d.2 (subst (λ ns. UsesDefined ns (map_atom ρ d.0.value)) (sym is) (uses ρ ds d.0.value used)))))

-- ---- paths

-- a path among the renamed blocks is one of the function's own
own_path : (m : Module) (ρ : Name → Name) (f : Function) → IsInjectiveOn (names_of f) ρ → HasFunctionShape m f → (path : List Block) (b : Block) → Contains f.blocks b → IsPath (rename_function ρ f) (rename_block ρ b) path
    → (own : List Block) × IsPath f b own × (map (rename_block ρ) own ≡ path)
own_path m ρ f one shape [] b in_b is = ([], tt, refl)
own_path m ρ f one shape (c ∷ path) b in_b is =
    let d = from_mapped (rename_block ρ) f.blocks c is.0 in
    let leads : Contains (map ρ (successors_of b.term)) c.name = subst (λ ss. Contains ss c.name) (successors ρ b.term) is.1 in
    let s = from_mapped ρ (successors_of b.term) c.name leads in
    let same : s.0 ≡ d.0.name = one s.0 d.0.name (knows_labels m f shape b in_b s.0 s.1) (block_in f d.0 d.1) (s.2 ∙ sym (ap (λ (x : Block). x.name) d.2)) in
    let rest = own_path m ρ f one shape path d.0 d.1 (subst (λ (x : Block). IsPath (rename_function ρ f) x path) (sym d.2) is.2) in (
      d.0 ∷ rest.0,
      (d.1, subst (Contains (successors_of b.term)) same s.1, rest.1),
      ap (λ (x : Block). x ∷ map (rename_block ρ) rest.0) d.2 ∙ ap (λ (bs : List Block). c ∷ bs) rest.2,
    )

path_uses : (m : Module) (ρ : Name → Name) (f : Function) → IsInjectiveOn (names_of f) ρ → HasFunctionShape m f → (path : List Block) (b : Block) → Contains f.blocks b → IsPath f b path → (ds es : List Name) → es ≡ map ρ ds
    → PathUsesDefined ds b path → PathUsesDefined es (rename_block ρ b) (map (rename_block ρ) path)
path_uses m ρ f one shape [] b in_b is ds es same does = block_uses ρ b ds es same does
path_uses m ρ f one shape (c ∷ path) b in_b is ds es same does =
    let next : es ++ names_in (registers_of (rename_block ρ b)) ≡ map ρ (ds ++ names_in (registers_of b)) =
    ap (λ ns. ns ++ names_in (registers_of (rename_block ρ b))) same
    ∙ more ρ ds (names_in (registers_of b)) (names_in (registers_of (rename_block ρ b))) (of_block_registers ρ b) in (
      block_uses ρ b ds es same does.0,
      phis_use m ρ f one shape b c in_b is.0 (ds ++ names_in (registers_of b)) (es ++ names_in (registers_of (rename_block ρ b))) next does.1,
      path_uses m ρ f one shape path c is.0 is.2 (ds ++ names_in (registers_of b)) (es ++ names_in (registers_of (rename_block ρ b))) next does.2,
    )

-- the first of them, or this one
abbrev first_of : Block → List Block → Block
first_of b [] = b
first_of b (c ∷ cs) = c

of_renamed : (m : Module) (ρ : Name → Name) (f : Function) → IsInjectiveOn (names_of f) ρ → HasFunctionShape m f → IsFunctionDefined f → IsFunctionDefined (rename_function ρ f)
of_renamed m ρ f one shape defined first further path blocks is =
    let own_blocks : map (rename_block ρ) (shape.first ∷ shape.further) ≡ first ∷ further = ap (map (rename_block ρ)) (sym shape.blocks) ∙ blocks in
    let is_first : rename_block ρ shape.first ≡ first = ap (first_of (rename_block ρ shape.first)) own_blocks in
    let there : Contains f.blocks shape.first = subst (λ bs. Contains bs shape.first) (sym shape.blocks) (here shape.first shape.further) in
    let own = own_path m ρ f one shape path shape.first there (subst (λ (x : Block). IsPath (rename_function ρ f) x path) (sym is_first) is) in
    let used = defined shape.first shape.further own.0 shape.blocks own.1 in
    let renamed = path_uses m ρ f one shape own.0 shape.first there own.1 (names_in (params_of f)) (names_in (params_of (rename_function ρ f))) (param_names ρ f.params) used in
    subst (λ (x : Block). PathUsesDefined (names_in (params_of (rename_function ρ f))) x path) is_first
    (subst (λ (bs : List Block). PathUsesDefined (names_in (params_of (rename_function ρ f))) (rename_block ρ shape.first) bs) own.2 renamed)

pub keeps_defined : (m : Module) (ρ : Name → Name) (f g : Function) → IsRenamed ρ f g → HasFunctionShape m f → IsFunctionDefined f → IsFunctionDefined g
keeps_defined m ρ f g is shape defined = subst IsFunctionDefined (sym is.same) (of_renamed m ρ f is.injective shape defined)
