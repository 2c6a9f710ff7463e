-- The world at a start is as a fine side's: its bytes in range, its globals live and named, and no block under two names.
use Rattle.std.proofs.Common.{◌≡◌, ℕ, zero, suc, pos, ◌<◌, ◌+◌, Bool, true, false, not, nat_eq, List, [], ◌∷◌, ◌++◌, length, map, Option, None, Some, find, refl, sym, ap, subst, ◌∙◌, arith, slice_get, ⊎_elim}
use Rattle.std.specs.List.{list_any, range_with_len}
use Rattle.std.specs.Option.{is_some, option_or}
use Rattle.std.proofs.lemmas.Bool.{cases_Bool, cond-true, cond-false, or_from, false_from_ne_true}
use Rattle.std.proofs.lemmas.List.{length-map, length-replicate}
use Rattle.std.proofs.lemmas.List.FromFn.{length-map-range_with_len}
use Rattle.ir_types.specs.declared.names.Name.{Name}
use Rattle.ir_types.specs.NameLaws.{right_true, same_name_refl, same_name_true, same_nat_true}
use Rattle.ir_types.specs.Named.{size_of}
use Rattle.ir_types.specs.Same.{same_name}
use Rattle.ir_core.specs.declared.functions.Param.{Param}
use Rattle.ir_core.specs.declared.modules.GlobalVar.{GlobalVar}
use Rattle.ir_core.specs.declared.modules.Init.{Init}
use Rattle.ir_core.specs.declared.values.Byte.TheVariants as byte
use Rattle.ir_core.specs.declared.values.Value.TheVariants.{Ptr}
use Rattle.ir_values.specs.Constants.{Scope, global_at}
use Rattle.block_memory.specs.Laws.{IsOfBytes}
use Rattle.block_memory.specs.Memory.{Cell, Memory, cell_at}
use Rattle.block_memory.specs.NameLaws.{AreApart}
use Rattle.block_memory.specs.Names.{is_bound_to}
use Rattle.ir_machine.specs.declared.inputs.External.{External}
use Rattle.ir_machine.specs.declared.inputs.Input.{Input}
use Rattle.ir_machine.specs.declared.inputs.InputPath.{InputPath}
use Rattle.ir_machine.specs.declared.inputs.InputPath.TheVariants as path
use Rattle.ir_machine.specs.Keeps.{IsLive}
use Rattle.ir_machine.specs.Registers.{align_or}
use Rattle.ir_machine.specs.Starting.{byte_given, bytes_misfit, external_bytes, external_misfit, external_named, first_of, global_bytes, global_cell, input_cell, is_external, misfit, names_at_start, unless, world_at_start}
use Rattle.ir_machine.specs.State.{World}
use Rattle.ir_machine.proofs.Passing.{fitting}
use Rattle.ir_machine.proofs.Setting.{found_passes}
use Rattle.ir_machine.proofs.Worlds.{starts_of_bytes}

-- what a fine side asks of its world
pub record IsThere (scope : Scope) (world : World) : Type 0 where
  pub bytes : IsOfBytes world.memory
  pub globals : (k : ℕ) (g : GlobalVar) → slice_get scope.globals k ≡ Some g → global_at 0 scope.globals g.name ≡ Ptr k (pos 0)
      → IsLive world.memory k (align_or scope.types g.ty g.align) (size_of scope.types g.ty)
  pub named : (k : ℕ) → k < length scope.globals → slice_get world.names k ≡ Some (Some k)
  pub once : AreApart world.names

none_of_both : {A : Type 0} (o p : Option A) → option_or o p ≡ None → (o ≡ None) × (p ≡ None)
none_of_both None p h = (refl, h)
none_of_both (Some x) p h = absurd (cc)

fits_so : (b : Bool) (place : InputPath) → unless b place ≡ None → b ≡ true
fits_so true place h = refl
fits_so false place h = absurd (cc)

-- ---- names in order

named_in_order : (from n k : ℕ) → k < n → slice_get (map Some (range_with_len from n)) k ≡ Some (Some (from + k))
named_in_order from zero k below = absurd (omega (arith, below))
named_in_order from (suc n) zero below = let same : from ≡ from + 0 = omega arith in ap (λ b. Some (Some b)) same
named_in_order from (suc n) (suc k) below =
    let same : (from + 1) + k ≡ from + suc k = omega arith in named_in_order (from + 1) n k (omega (arith, below)) ∙ ap (λ b. Some (Some b)) same

free_before : (b from n : ℕ) → b < from → list_any (is_bound_to b) (map Some (range_with_len from n)) ≡ false
free_before b from zero below = refl
free_before b from (suc n) below =
    or_from (nat_eq from b) (list_any (is_bound_to b) (map Some (range_with_len (from + 1) n)))
    (false_from_ne_true (nat_eq from b) (λ e. let same = same_nat_true from b e in absurd (omega (arith, below, same)))) (free_before b (from + 1) n (omega (arith, below)))

apart_from : (from n : ℕ) → AreApart (map Some (range_with_len from n))
apart_from from zero = tt
apart_from from (suc n) = (free_before from (from + 1) n (omega arith), apart_from (from + 1) n)

-- ---- globals that their names lead to

cell_there : {A : Type 0} (f : A → Cell) (xs : List A) (ys : Memory) (k : ℕ) (x : A) → slice_get xs k ≡ Some x → cell_at (map f xs ++ ys) k ≡ Some (f x)
cell_there f [] ys k x is = absurd (cc)
cell_there f (y ∷ xs) ys zero x is = let same : y ≡ x = cc in ap (λ z. Some (f z)) same
cell_there f (y ∷ xs) ys (suc k) x is = cell_there f xs ys k x is

-- such a global is the first of its name
first_of_name : (place : ℕ) (gs : List GlobalVar) (k n : ℕ) (g : GlobalVar) → n ≡ place + k → slice_get gs k ≡ Some g → global_at place gs g.name ≡ Ptr n (pos 0)
    → find (λ (h : GlobalVar). same_name h.name g.name) gs ≡ Some g
first_of_name place [] k n g is got leads = absurd (cc)
first_of_name place (h ∷ gs) zero n g is got leads =
    let same : h ≡ g = cc in
    cond-true (same_name h.name g.name) (Some h) (find (λ (h : GlobalVar). same_name h.name g.name) gs) (subst (λ (f : GlobalVar). same_name f.name g.name ≡ true) (sym same) (same_name_refl g.name))
    ∙ ap Some same
first_of_name place (h ∷ gs) (suc k) n g is got leads = ⊎_elim
    (λ e.
    let here : Ptr place (pos 0) ≡ Ptr n (pos 0) = sym (cond-true (same_name h.name g.name) (Ptr place (pos 0)) (global_at (suc place) gs g.name) e) ∙ leads in
    let same : place ≡ n = cc in
    absurd (omega (arith, is, same)))
    (λ e.
    cond-false (same_name h.name g.name) (Some h) (find (λ (h : GlobalVar). same_name h.name g.name) gs) e
    ∙ first_of_name (suc place) gs k n g (omega (arith, is)) got (sym (cond-false (same_name h.name g.name) (Ptr place (pos 0)) (global_at (suc place) gs g.name) e) ∙ leads))
    (cases_Bool (same_name h.name g.name))

module _ (scope : Scope) (input : Input) where
  -- what is given to an external global fits it
  given_fits : (x : Name) (at : ℕ) (es : List External) → first_of (external_misfit scope (names_at_start scope input)) at es ≡ None → (e : External) → external_named x es ≡ Some e
      → is_external scope.types (length e.bytes) (find (λ (g : GlobalVar). same_name g.name e.name) scope.globals) ≡ true
  given_fits x at [] fit e found = absurd (cc)
  given_fits x at (d ∷ es) fit e found =
      let parts = none_of_both (external_misfit scope (names_at_start scope input) at d) (first_of (external_misfit scope (names_at_start scope input)) (suc at) es) fit in
      ⊎_elim
      (λ t.
      let same : d ≡ e = some_same (sym (cond-true (same_name d.name x) (Some d) (external_named x es) t) ∙ found) in
      subst (λ (e : External). is_external scope.types (length e.bytes) (find (λ (g : GlobalVar). same_name g.name e.name) scope.globals) ≡ true) same
      (fits_so _ (path.External at) (none_of_both _ (bytes_misfit (names_at_start scope input) (path.ExternalByte at) d.bytes) parts.0).0))
      (λ t. given_fits x (suc at) es parts.1 e (sym (cond-false (same_name d.name x) (Some d) (external_named x es) t) ∙ found))
      (cases_Bool (same_name d.name x))
    where
      some_same : {c e : External} → Some c ≡ Some e → c ≡ e
      some_same h = cc

  module _ (externals : first_of (external_misfit scope (names_at_start scope input)) 0 input.externals ≡ None) where
    external_long : (g : GlobalVar) → find (λ (h : GlobalVar). same_name h.name g.name) scope.globals ≡ Some g → (o : Option External) → external_named g.name input.externals ≡ o
        → length (external_bytes scope input (size_of scope.types g.ty) o) ≡ size_of scope.types g.ty
    external_long g first None is = length-replicate (size_of scope.types g.ty) (byte.Num 0)
    external_long g first (Some e) is =
        let named : e.name ≡ g.name = same_name_true e.name g.name (found_passes (λ (e : External). same_name e.name g.name) input.externals e is) in
        let fits : is_external scope.types (length e.bytes) (find (λ (h : GlobalVar). same_name h.name g.name) scope.globals) ≡ true =
        subst (λ x. is_external scope.types (length e.bytes) (find (λ (h : GlobalVar). same_name h.name x) scope.globals) ≡ true) named (given_fits g.name 0 input.externals externals e is) in
        let size : is_external scope.types (length e.bytes) (Some g) ≡ true = subst (λ o. is_external scope.types (length e.bytes) o ≡ true) first fits in
        length-map e.bytes (byte_given scope input)
        ∙ sym (same_nat_true (size_of scope.types g.ty) (length e.bytes) (right_true (not (is_some g.init)) (nat_eq (size_of scope.types g.ty) (length e.bytes)) size))

    global_long : (g : GlobalVar) → find (λ (h : GlobalVar). same_name h.name g.name) scope.globals ≡ Some g → (o : Option Init) → length (global_bytes scope input g o) ≡ size_of scope.types g.ty
    global_long g first (Some i) = length-map-range_with_len _ 0 (size_of scope.types g.ty)
    global_long g first None = external_long g first (external_named g.name input.externals) refl

    global_there : (k : ℕ) (g : GlobalVar) → slice_get scope.globals k ≡ Some g → global_at 0 scope.globals g.name ≡ Ptr k (pos 0)
        → IsLive (world_at_start scope input).memory k (align_or scope.types g.ty g.align) (size_of scope.types g.ty)
    global_there k g got leads = record {
      cell = global_cell scope input g;
      there = cell_there (global_cell scope input) scope.globals (map (input_cell scope input) input.blocks) k g got;
      live = refl;
      align_is = refl;
      size_is = global_long g (first_of_name 0 scope.globals k k g (omega arith) got leads) g.init;
    }

  -- of whatever module, and of whatever input that fits
  pub starts_there : (params : List Param) → misfit scope params input ≡ None → IsThere scope (world_at_start scope input)
  starts_there params fit =
      let fits = fitting scope input params fit in
      record {
        bytes = starts_of_bytes scope input fits.externals fits.blocks;
        globals = global_there fits.externals;
        named = λ k below.
            (let same : 0 + k ≡ k = omega arith in
            named_in_order 0 (length scope.globals + length input.blocks) k (omega (arith, below)) ∙ ap (λ b. Some (Some b)) same);
        once = apart_from 0 (length scope.globals + length input.blocks);
      }
