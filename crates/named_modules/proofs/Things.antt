-- What a function's names are: its registers and its labels, each found by its name.
use Rattle.std.proofs.Common.{◌≡◌, ◌∙◌, cond, List, [], ◌∷◌, ◌++◌, map, Option, Some, None, refl, sym, ap, subst}
use Rattle.std.specs.List.{Contains, cons_option, filter_map, flat_map}
use Rattle.std.proofs.Math.Logic.{⊎_elim}
use Rattle.std.proofs.lemmas.List.{map-append}
use Rattle.std.proofs.lemmas.List.Elements.{filter_map-append}
use Rattle.ir_core.specs.declared.functions.Block.{Block}
use Rattle.ir_core.specs.declared.functions.Function.{Function}
use Rattle.ir_core.specs.declared.functions.Instr.{Instr}
use Rattle.ir_core.specs.declared.functions.Param.{Param}
use Rattle.ir_core.specs.declared.functions.Phi.{Phi}
use Rattle.ir_core.specs.declared.modules.Module.{Module}
use Rattle.ir_core.specs.Functions.{block_names, names_in, names_of, params_of, phi_registers, register_of, set_by}
use Rattle.ir_types.specs.declared.named.NamedTy.{NamedTy}
use Rattle.ir_types.specs.declared.names.Name.{Name}
use Rattle.ir_types.specs.declared.ty.Ty.{Ty}
use Rattle.ir_types.specs.Same.{same_name}
use Rattle.named_modules.specs.Faults.{Thing, Things, Block', Register', register_thing, thing_of, things_in, things_of}
use Rattle.named_modules.specs.Functions.{gives_type, labels_of, registers_of, told_in, told_of, typed}
use Rattle.named_modules.specs.Values.{Registers}
use Rattle.named_modules.proofs.Lists.{AreDistinct, contains_behind, contains_cases, contains_here, contains_none, look, look_finds, look_there, names_of_pairs}
use Rattle.named_modules.proofs.ValueTies.{Matches}

-- ---- the registers and the labels among things

abbrev register_as : Name → Thing → Option (Name × Option Ty)
register_as x Block' = None
register_as x (Register' own) = Some (x, own)

abbrev registers_in : Things → Registers
registers_in = filter_map (λ (t : Name × Thing). register_as t.0 t.1)

abbrev label_as : Name → Thing → Option Name
label_as x Block' = Some x
label_as x (Register' own) = None

abbrev labels_in : Things → List Name
labels_in = filter_map (λ (t : Name × Thing). label_as t.0 t.1)

register_there : (ts : Things) (x : Name) (own : Option Ty) → Contains ts (x, Register' own) → Contains (registers_in ts) (x, own)
register_there [] x own there = absurd (contains_none (x, Register' own) there)
register_there ((n, Block') ∷ ts) x own there =
    ⊎_elim (λ e. let wrong : Block' ≡ Register' own = ap (λ (t : Name × Thing). t.1) e in cc) (λ more. register_there ts x own more) (contains_cases (n, Block') (x, Register' own) ts there)
register_there ((n, Register' known) ∷ ts) x own there =
    ⊎_elim
    (λ e. let same : (Some (n, known)) ≡ Some (x, own) = ap (λ (t : Name × Thing). register_as t.0 t.1) e in
    let one : (◌≡◌ {A = Name × Option Ty} (n, known) (x, own)) = cc in
    subst (Contains ((n, known) ∷ registers_in ts)) one (contains_here (n, known) (registers_in ts)))
    (λ more. contains_behind (n, known) (x, own) (registers_in ts) (register_there ts x own more))
    (contains_cases (n, Register' known) (x, Register' own) ts there)

there_register : (ts : Things) (x : Name) (own : Option Ty) → Contains (registers_in ts) (x, own) → Contains ts (x, Register' own)
there_register [] x own there = absurd (contains_none (x, own) there)
there_register ((n, Block') ∷ ts) x own there = contains_behind (n, Block') (x, Register' own) ts (there_register ts x own there)
there_register ((n, Register' known) ∷ ts) x own there =
    ⊎_elim
    (λ e. let thing : Name × Option Ty → Name × Thing = register_thing in
    subst (Contains ((n, Register' known) ∷ ts)) (ap thing e) (contains_here (n, Register' known) ts))
    (λ more. contains_behind (n, Register' known) (x, Register' own) ts (there_register ts x own more))
    (contains_cases (n, known) (x, own) (registers_in ts) there)

label_there : (ts : Things) (x : Name) → Contains ts (x, Block') → Contains (labels_in ts) x
label_there [] x there = absurd (contains_none (x, Block') there)
label_there ((n, Register' known) ∷ ts) x there =
    ⊎_elim (λ e. let wrong : Register' known ≡ Block' = ap (λ (t : Name × Thing). t.1) e in cc) (λ more. label_there ts x more) (contains_cases (n, Register' known) (x, Block') ts there)
label_there ((n, Block') ∷ ts) x there =
    ⊎_elim
    (λ e. subst (Contains (n ∷ labels_in ts)) (ap (λ (t : Name × Thing). t.0) e) (contains_here n (labels_in ts)))
    (λ more. contains_behind n x (labels_in ts) (label_there ts x more))
    (contains_cases (n, Block') (x, Block') ts there)

there_label : (ts : Things) (x : Name) → Contains (labels_in ts) x → Contains ts (x, Block')
there_label [] x there = absurd (contains_none x there)
there_label ((n, Register' known) ∷ ts) x there = contains_behind (n, Register' known) (x, Block') ts (there_label ts x there)
there_label ((n, Block') ∷ ts) x there =
    ⊎_elim
    (λ e. let thing : Name → Name × Thing = λ y. (y, Block') in
    subst (Contains ((n, Block') ∷ ts)) (ap thing e) (contains_here (n, Block') ts))
    (λ more. contains_behind (n, Block') (x, Block') ts (there_label ts x more))
    (contains_cases n x (labels_in ts) there)

look_is : (ts : Things) (x : Name) → thing_of ts x ≡ look ts x
look_is [] x = refl
look_is (t ∷ ts) x = ap (λ o. cond (same_name t.0 x) (Some t.1) o) (look_is ts x)

matching : (ts : Things) → AreDistinct (names_of_pairs ts) → Matches ts (registers_in ts) (labels_in ts)
matching ts distinct = record {
  known = λ x own e. register_there ts x own (look_there ts x (Register' own) (sym (look_is ts x) ∙ e));
  found = λ x own there. look_is ts x ∙ look_finds ts x (Register' own) distinct (there_register ts x own there);
  label_known = λ x e. label_there ts x (look_there ts x Block' (sym (look_is ts x) ∙ e));
  label_found = λ x there. look_is ts x ∙ look_finds ts x Block' distinct (there_label ts x there);
}

-- ---- of a list of registers

registers_back : (rs : Registers) → registers_in (map register_thing rs) ≡ rs
registers_back [] = refl
registers_back (r ∷ rs) = ap (λ more. r ∷ more) (registers_back rs)

no_labels : (rs : Registers) → labels_in (map register_thing rs) ≡ []
no_labels [] = refl
no_labels (r ∷ rs) = no_labels rs

same_names : (rs : Registers) → names_of_pairs (map register_thing rs) ≡ names_of_pairs rs
same_names [] = refl
same_names (r ∷ rs) = ap (λ ns. r.0 ∷ ns) (same_names rs)

typed_names : (rs : List (Name × Ty)) → names_of_pairs (typed rs) ≡ names_in rs
typed_names [] = refl
typed_names (r ∷ rs) = ap (λ ns. r.0 ∷ ns) (typed_names rs)

told_names : (types : List NamedTy) (ls : List Instr) → names_of_pairs (flat_map (told_of types) ls) ≡ names_in (set_by ls)
told_names types [] = refl
told_names types (l ∷ ls) = by (register_of l) (cond (gives_type types l)) (told_names types ls)
  where
    by : (o : Option (Name × Ty)) (own : Option Ty → Option Ty → Option Ty) → names_of_pairs (flat_map (told_of types) ls) ≡ names_in (set_by ls) → names_of_pairs (map (λ (r : Name × Ty). (r.0, own (Some r.1) None)) (cons_option o []) ++ flat_map (told_of types) ls) ≡ names_in (cons_option o (set_by ls))
    by None own rest = rest
    by (Some r) own rest = ap (λ ns. r.0 ∷ ns) rest

-- ---- of a block

module _ (types : List NamedTy) where
  abbrev plain_in : Block → Things
  plain_in b = (b.name, Block') ∷ map register_thing (told_in types b)

  phis_plain : (ps : List Phi) → map (λ (p : Phi). let thing : Name × Thing = (p.name, Register' (Some p.ty)) in thing) ps ≡ map register_thing (typed (phi_registers ps))
  phis_plain [] = refl
  phis_plain (p ∷ ps) = ap (λ ts. (p.name, Register' (Some p.ty)) ∷ ts) (phis_plain ps)

  block_plain : (b : Block) → things_in types b ≡ plain_in b
  block_plain b =
      ap (λ ts. (b.name, Block') ∷ (ts ++ map register_thing (flat_map (told_of types) b.body))) (phis_plain b.phis)
      ∙ ap (λ ts. (b.name, Block') ∷ ts) (sym (map-append register_thing (typed (phi_registers b.phis)) (flat_map (told_of types) b.body)))

  blocks_plain : (bs : List Block) → flat_map (things_in types) bs ≡ flat_map plain_in bs
  blocks_plain [] = refl
  blocks_plain (b ∷ bs) = ap (λ ts. ts ++ flat_map (things_in types) bs) (block_plain b) ∙ ap (λ ts. plain_in b ++ ts) (blocks_plain bs)

  params_plain : (ps : List Param) → map (λ (p : Param). let thing : Name × Thing = (p.name, Register' (Some p.ty)) in thing) ps ≡ map register_thing (typed (map (λ (p : Param). (p.name, p.ty)) ps))
  params_plain [] = refl
  params_plain (p ∷ ps) = ap (λ ts. (p.name, Register' (Some p.ty)) ∷ ts) (params_plain ps)

  abbrev plain_of : Function → Things
  plain_of f = map register_thing (typed (params_of f)) ++ flat_map plain_in f.blocks

  function_plain : (f : Function) → things_of types f ≡ plain_of f
  function_plain f =
      ap (λ ts. ts ++ flat_map (things_in types) f.blocks) (params_plain f.params) ∙ ap (λ ts. map register_thing (typed (params_of f)) ++ ts) (blocks_plain f.blocks)

  blocks_registers : (bs : List Block) → registers_in (flat_map plain_in bs) ≡ flat_map (told_in types) bs
  blocks_registers [] = refl
  blocks_registers (b ∷ bs) =
      filter_map-append (λ (t : Name × Thing). register_as t.0 t.1) (map register_thing (told_in types b)) (flat_map plain_in bs)
      ∙ ap (λ rs. rs ++ registers_in (flat_map plain_in bs)) (registers_back (told_in types b))
      ∙ ap (λ rs. told_in types b ++ rs) (blocks_registers bs)

  blocks_labels : (bs : List Block) → labels_in (flat_map plain_in bs) ≡ map (λ (b : Block). b.name) bs
  blocks_labels [] = refl
  blocks_labels (b ∷ bs) =
      ap (λ ns. b.name ∷ ns)
      (filter_map-append (λ (t : Name × Thing). label_as t.0 t.1) (map register_thing (told_in types b)) (flat_map plain_in bs)
      ∙ ap (λ ns. ns ++ labels_in (flat_map plain_in bs)) (no_labels (told_in types b))
      ∙ blocks_labels bs)

  block_names_are : (b : Block) → names_of_pairs (plain_in b) ≡ block_names b
  block_names_are b =
      ap (λ ns. b.name ∷ ns)
      (same_names (told_in types b)
      ∙ map-append (λ (r : Name × Option Ty). r.0) (typed (phi_registers b.phis)) (flat_map (told_of types) b.body)
      ∙ ap (λ ns. ns ++ names_of_pairs (flat_map (told_of types) b.body)) (typed_names (phi_registers b.phis))
      ∙ ap (λ ns. names_in (phi_registers b.phis) ++ ns) (told_names types b.body)
      ∙ sym (map-append (λ (r : Name × Ty). r.0) (phi_registers b.phis) (set_by b.body)))

  blocks_names : (bs : List Block) → names_of_pairs (flat_map plain_in bs) ≡ flat_map block_names bs
  blocks_names [] = refl
  blocks_names (b ∷ bs) =
      map-append (λ (t : Name × Thing). t.0) (plain_in b) (flat_map plain_in bs)
      ∙ ap (λ ns. ns ++ names_of_pairs (flat_map plain_in bs)) (block_names_are b)
      ∙ ap (λ ns. block_names b ++ ns) (blocks_names bs)

  names_are : (f : Function) → names_of_pairs (plain_of f) ≡ names_of f
  names_are f =
      map-append (λ (t : Name × Thing). t.0) (map register_thing (typed (params_of f))) (flat_map plain_in f.blocks)
      ∙ ap (λ ns. ns ++ names_of_pairs (flat_map plain_in f.blocks)) (same_names (typed (params_of f)) ∙ typed_names (params_of f))
      ∙ ap (λ ns. names_in (params_of f) ++ ns) (blocks_names f.blocks)

  registers_are : (f : Function) → registers_in (plain_of f) ≡ typed (params_of f) ++ flat_map (told_in types) f.blocks
  registers_are f =
      filter_map-append (λ (t : Name × Thing). register_as t.0 t.1) (map register_thing (typed (params_of f))) (flat_map plain_in f.blocks)
      ∙ ap (λ rs. rs ++ registers_in (flat_map plain_in f.blocks)) (registers_back (typed (params_of f)))
      ∙ ap (λ rs. typed (params_of f) ++ rs) (blocks_registers f.blocks)

  labels_are : (f : Function) → labels_in (plain_of f) ≡ labels_of f
  labels_are f =
      filter_map-append (λ (t : Name × Thing). label_as t.0 t.1) (map register_thing (typed (params_of f))) (flat_map plain_in f.blocks)
      ∙ ap (λ ns. ns ++ labels_in (flat_map plain_in f.blocks)) (no_labels (typed (params_of f)))
      ∙ blocks_labels f.blocks

-- where no name of a function stands twice, its registers and labels are found
pub things_match : (m : Module) (f : Function) → AreDistinct (names_of f) → Matches (things_of m.types f) (registers_of m f) (labels_of f)
things_match m f distinct =
    let plain = plain_of m.types f in
    let found = matching plain (subst AreDistinct (sym (names_are m.types f)) distinct) in
    subst (λ ts. Matches ts (registers_of m f) (labels_of f)) (sym (function_plain m.types f))
    (subst (λ rs. Matches plain rs (labels_of f)) (registers_are m.types f) (subst (Matches plain (registers_in plain)) (labels_are m.types f) found))
