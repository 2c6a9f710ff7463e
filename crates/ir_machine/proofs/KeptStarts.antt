-- Where a run of a well-formed module starts, what is kept is so.
use Rattle.std.proofs.Common.{◌≡◌, ℕ, zero, suc, ◌<◌, ◌+◌, Bool, true, false, not, nat_eq, List, [], ◌∷◌, ◌++◌, length, map, Option, None, Some, find, refl, sym, ap, subst, ◌∙◌, arith, slice_get}
use Rattle.std.specs.List.{AllByRecursion, Contains, list_any, range_with_len}
use Rattle.std.specs.Option.{is_some, option_and_then}
use Rattle.std.proofs.lemmas.List.{length-map, length-replicate}
use Rattle.std.proofs.lemmas.List.Elements.{Contains-append_left, Contains-append_right}
use Rattle.std.proofs.lemmas.List.FromFn.{length-map-range_with_len}
use Rattle.ir_types.specs.declared.names.Name.{Name}
use Rattle.ir_types.specs.NameLaws.{right_true, same_name_refl, same_name_true, same_nat_true}
use Rattle.ir_types.specs.Named.{size_of}
use Rattle.ir_types.specs.Same.{same_name}
use Rattle.ir_core.specs.declared.functions.Block.{Block}
use Rattle.ir_core.specs.declared.functions.Function.{Function}
use Rattle.ir_core.specs.declared.functions.Param.{Param}
use Rattle.ir_core.specs.declared.modules.GlobalVar.{GlobalVar}
use Rattle.ir_core.specs.declared.modules.Init.{Init}
use Rattle.ir_core.specs.declared.modules.Module.{Module}
use Rattle.ir_core.specs.declared.values.Byte.TheVariants as byte
use Rattle.ir_core.specs.declared.values.Kind.{Kind}
use Rattle.ir_core.specs.declared.values.Value.{Value}
use Rattle.ir_core.specs.Order.{AreNew}
use Rattle.ir_core.specs.WellFormed.{HasShape}
use Rattle.ir_values.specs.Constants.{Scope}
use Rattle.block_memory.specs.declared.items.Shown.{Shown}
use Rattle.block_memory.specs.Memory.{Cell, Memory, cell_at}
use Rattle.block_memory.specs.NameLaws.{AreApart}
use Rattle.block_memory.specs.Names.{Names, is_bound_to}
use Rattle.ir_machine.specs.declared.inputs.External.{External}
use Rattle.ir_machine.specs.declared.inputs.Input.{Input}
use Rattle.ir_machine.specs.declared.inputs.InputBlock.{InputBlock}
use Rattle.ir_machine.specs.declared.inputs.InputPath.{InputPath}
use Rattle.ir_machine.specs.KeepLaws.{StartsHaveIt}
use Rattle.ir_machine.specs.Keeps.{AreKept, IsAmong, IsByteAmong, IsKept, IsLive, IsMade, IsNameAmong, count_at_start}
use Rattle.ir_machine.specs.Machine.{at_block, function_named, passed}
use Rattle.ir_machine.specs.Registers.{align_or, no_registers}
use Rattle.ir_machine.specs.Starting.{at_entry, byte_given, external_bytes, external_named, global_bytes, global_cell, handed, input_cell, is_external, misfit, names_at_start, started, started_unless, world_at_start}
use Rattle.ir_machine.specs.State.{Running, State, World, scope_of}
use Rattle.ir_machine.proofs.Finding.{found_inside}
use Rattle.ir_machine.proofs.HeldConstants.{IsGoodByte}
use Rattle.ir_machine.proofs.Holding.{passed_among}
use Rattle.ir_machine.proofs.InKind.{no_registers_in_kind}
use Rattle.ir_machine.proofs.Keeping.{all_in, all_on, push_on}
use Rattle.ir_machine.proofs.KeptSteps.{resolve_among}
use Rattle.ir_machine.proofs.Passing.{IsFitting, IsPassable, fitting, handed_in_kind, passed_in_kind}
use Rattle.ir_machine.proofs.Setting.{found_passes, new_apart}
use Rattle.ir_machine.proofs.Worlds.{IsOfGlobal, all_names, all_of_globals, memory_good, starts_of_bytes}

-- ---- lists

cell_mapped : {A : Type 0} (f : A → Cell) (xs : List A) (ys : Memory) (k : ℕ) (x : A) → slice_get xs k ≡ Some x → cell_at (map f xs ++ ys) k ≡ Some (f x)
cell_mapped f [] ys k x is = absurd (cc)
cell_mapped f (y ∷ xs) ys zero x is = let same : y ≡ x = cc in ap (λ z. Some (f z)) same
cell_mapped f (y ∷ xs) ys (suc k) x is = cell_mapped f xs ys k x is

cell_behind : {A : Type 0} (f : A → Cell) (xs : List A) (ys : Memory) (k n : ℕ) → n ≡ length xs + k → cell_at (map f xs ++ ys) n ≡ cell_at ys k
cell_behind f [] ys k n is = let same : n ≡ k = omega (arith, is) in ap (cell_at ys) same
cell_behind f (x ∷ xs) ys k zero is = absurd (omega (arith, is))
cell_behind f (x ∷ xs) ys k (suc n) is = cell_behind f xs ys k n (omega (arith, is))

cell_got : {A : Type 0} (f : A → Cell) (xs : List A) (k : ℕ) (x : A) → slice_get xs k ≡ Some x → cell_at (map f xs) k ≡ Some (f x)
cell_got f [] k x is = absurd (cc)
cell_got f (y ∷ xs) zero x is = let same : y ≡ x = cc in ap (λ z. Some (f z)) same
cell_got f (y ∷ xs) (suc k) x is = cell_got f xs k x is

-- ---- names in order

counted_names : (from n k : ℕ) → k < n → slice_get (map Some (range_with_len from n)) k ≡ Some (Some (from + k))
counted_names from zero k below = absurd (omega (arith, below))
counted_names from (suc n) zero below = let same : from ≡ from + 0 = omega arith in ap (λ b. Some (Some b)) same
counted_names from (suc n) (suc k) below =
    let same : (from + 1) + k ≡ from + suc k = omega arith in
    counted_names (from + 1) n k (omega (arith, below)) ∙ ap (λ b. Some (Some b)) same

free_by : (c b : ℕ) (rest : Names) (t : Bool) → nat_eq c b ≡ t → b < c → list_any (is_bound_to b) rest ≡ false → list_any (is_bound_to b) (Some c ∷ rest) ≡ false
free_by c b rest true is below none = let same : c ≡ b = same_nat_true c b is in absurd (omega (arith, same, below))
free_by c b rest false is below none = rw is none

free_before : (b from n : ℕ) → b < from → list_any (is_bound_to b) (map Some (range_with_len from n)) ≡ false
free_before b from zero below = refl
free_before b from (suc n) below = free_by from b (map Some (range_with_len (from + 1) n)) (nat_eq from b) refl below (free_before b (from + 1) n (omega (arith, below)))

apart_in_order : (from n : ℕ) → AreApart (map Some (range_with_len from n))
apart_in_order from zero = tt
apart_in_order from (suc n) = (free_before from (from + 1) n (omega arith), apart_in_order (from + 1) n)

-- ---- what is passed

module _ (world : World) where
  handed_among : (among : ℕ → Type 0) → AllByRecursion (IsNameAmong among) world.names → (ps : List Param) (args : List Shown)
      → AllByRecursion (λ (v : Option Kind × Value). IsAmong among v.1) (handed world ps args)
  handed_among among h [] args = tt
  handed_among among h (p ∷ ps) [] = tt
  handed_among among h (p ∷ ps) (a ∷ args) = (resolve_among among world a h, handed_among among h ps args)

-- ---- globals by their names

global_by : (g : GlobalVar) (gs : List GlobalVar) (behind : List Name) (taken : List Name) (x : Name) (found : GlobalVar) (k : ℕ) (it : GlobalVar) (b : Bool) → same_name g.name x ≡ b
    → AreNew taken (map (λ (g : GlobalVar). g.name) (g ∷ gs) ++ behind) → find (λ (g : GlobalVar). same_name g.name x) (g ∷ gs) ≡ Some found
    → slice_get (g ∷ gs) k ≡ Some it → it.name ≡ x
    → ((j : ℕ) → slice_get gs j ≡ Some it → find (λ (g : GlobalVar). same_name g.name x) gs ≡ Some found → found ≡ it) → found ≡ it
global_by g gs behind taken x found zero it true is new finds got named more =
    let one : Some g ≡ Some found = sym (rw is refl) ∙ finds in
    let same : g ≡ it = cc in
    let first : g ≡ found = cc in
    sym first ∙ same
global_by g gs behind taken x found zero it false is new finds got named more =
    let same : g ≡ it = cc in
    let both : true ≡ false = sym (same_name_refl g.name) ∙ ap (same_name g.name) (ap (λ (z : GlobalVar). z.name) same ∙ named) ∙ is in absurd (cc)
global_by g gs behind taken x found (suc k) it true is new finds got named more =
    let name : g.name ≡ x = same_name_true g.name x is in
    let again : Contains (map (λ (g : GlobalVar). g.name) gs ++ behind) x =
    Contains-append_left (map (λ (g : GlobalVar). g.name) gs) behind x (subst (Contains (map (λ (g : GlobalVar). g.name) gs)) named (name_inside gs k it got)) in
    absurd (new_apart (taken ++ g.name ∷ []) (map (λ (g : GlobalVar). g.name) gs ++ behind) x new.1 (Contains-append_right taken (g.name ∷ []) x (zero, omega arith, name)) again)
  where
    name_inside : (gs : List GlobalVar) (k : ℕ) (it : GlobalVar) → slice_get gs k ≡ Some it → Contains (map (λ (g : GlobalVar). g.name) gs) it.name
    name_inside [] k it got = absurd (cc)
    name_inside (g ∷ gs) zero it got = let same : g ≡ it = cc in (zero, omega arith, ap (λ (z : GlobalVar). z.name) same)
    name_inside (g ∷ gs) (suc k) it got =
        let more = name_inside gs k it got in
        (suc more.0, omega (arith, more.1), more.2)
global_by g gs behind taken x found (suc k) it false is new finds got named more =
    let later : find (λ (g : GlobalVar). same_name g.name x) gs ≡ Some found = rw is at finds in
    more k got later

-- the first global of a name is the only one
only_global : (gs : List GlobalVar) (behind : List Name) (taken : List Name) (x : Name) (found : GlobalVar) (k : ℕ) (it : GlobalVar)
    → AreNew taken (map (λ (g : GlobalVar). g.name) gs ++ behind) → find (λ (g : GlobalVar). same_name g.name x) gs ≡ Some found → slice_get gs k ≡ Some it → it.name ≡ x → found ≡ it
only_global [] behind taken x found k it new finds got named = absurd (cc)
only_global (g ∷ gs) behind taken x found k it new finds got named =
    global_by g gs behind taken x found k it (same_name g.name x) refl new finds got named
    (λ j there later. only_global gs behind (taken ++ g.name ∷ []) x found j it new.1 later there named)

-- ---- the world

module _ (m : Module) (shape : HasShape m) (input : Input) (params : List Param) (fit : misfit (scope_of m) params input ≡ None) where
  abbrev scope : Scope
  scope = scope_of m

  abbrev world : World
  world = world_at_start scope input

  abbrev names : Names
  names = names_at_start scope input

  abbrev count : ℕ
  count = count_at_start scope input

  abbrev made : ℕ → Type 0
  made = IsMade world.memory

  fits_all : IsFitting scope input params
  fits_all = fitting scope input params fit

  -- sizes
  external_size : (k : ℕ) (g : GlobalVar) (e : External) (o : Option GlobalVar) → slice_get scope.globals k ≡ Some g → find (λ (h : GlobalVar). same_name h.name e.name) scope.globals ≡ o → e.name ≡ g.name
      → is_external scope.types (length e.bytes) o ≡ true → length e.bytes ≡ size_of scope.types g.ty
  external_size k g e None got finds named is = absurd (cc)
  external_size k g e (Some found) got finds named is =
      let same : found ≡ g = only_global scope.globals _ [] e.name found k g shape.names finds got (sym named) in
      let size : size_of scope.types found.ty ≡ length e.bytes = same_nat_true (size_of scope.types found.ty) (length e.bytes) (right_true (not (is_some found.init)) (nat_eq (size_of scope.types found.ty) (length e.bytes)) is) in
      sym size ∙ ap (λ (z : GlobalVar). size_of scope.types z.ty) same

  external_long : (k : ℕ) (g : GlobalVar) (o : Option External) → slice_get scope.globals k ≡ Some g → external_named g.name input.externals ≡ o
      → length (external_bytes scope input (size_of scope.types g.ty) o) ≡ size_of scope.types g.ty
  external_long k g None got is = length-replicate (size_of scope.types g.ty) (byte.Num 0)
  external_long k g (Some e) got is =
      let inside = found_inside (λ (e : External). same_name e.name g.name) input.externals e is in
      let named : e.name ≡ g.name = same_name_true e.name g.name (found_passes (λ (e : External). same_name e.name g.name) input.externals e is) in
      length-map e.bytes (byte_given scope input)
      ∙ external_size k g e (find (λ (h : GlobalVar). same_name h.name e.name) scope.globals) got refl named (all_in (IsOfGlobal scope input) input.externals (all_of_globals scope input fits_all.externals) e inside).global

  global_long : (k : ℕ) (g : GlobalVar) (o : Option Init) → slice_get scope.globals k ≡ Some g → length (global_bytes scope input g o) ≡ size_of scope.types g.ty
  global_long k g (Some i) got = length-map-range_with_len _ 0 (size_of scope.types g.ty)
  global_long k g None got = external_long k g (external_named g.name input.externals) got refl

  global_lives : (k : ℕ) (g : GlobalVar) → slice_get scope.globals k ≡ Some g → IsLive world.memory k (align_or scope.types g.ty g.align) (size_of scope.types g.ty)
  global_lives k g got = record {
    cell = global_cell scope input g;
    there = cell_mapped (global_cell scope input) scope.globals (map (input_cell scope input) input.blocks) k g got;
    live = refl;
    align_is = refl;
    size_is = global_long k g g.init got;
  }

  input_lives : (k : ℕ) (b : InputBlock) → slice_get input.blocks k ≡ Some b → IsLive world.memory (length scope.globals + k) b.align (length b.bytes)
  input_lives k b got = record {
    cell = input_cell scope input b;
    there =
        cell_behind (global_cell scope input) scope.globals (map (input_cell scope input) input.blocks) k (length scope.globals + k) refl
        ∙ cell_got (input_cell scope input) input.blocks k b got;
    live = refl;
    align_is = refl;
    size_is = length-map b.bytes (byte_given scope input);
  }

  world_kept : AreKept scope input [] world
  world_kept = record {
    registers = tt;
    bytes = starts_of_bytes scope input fits_all.externals fits_all.blocks;
    held = record {
      registers = tt;
      bytes =
          all_on (λ (c : Cell). AllByRecursion (IsGoodByte made) c.bytes) (λ (c : Cell). AllByRecursion (IsByteAmong made) c.bytes)
          (λ c h. all_on (IsGoodByte made) (IsByteAmong made) (λ b k. k.1) c.bytes h) world.memory (memory_good scope input fits_all.externals fits_all.blocks);
      names = all_names scope input;
    };
    own = tt;
    apart = tt;
    globals = global_lives;
    inputs = input_lives;
    named = λ k below. (let same : 0 + k ≡ k = omega arith in counted_names 0 count k below ∙ ap (λ b. Some (Some b)) same);
    once = apart_in_order 0 count;
  }

  entered_kept : (f : Function) (b : Block) → f.params ≡ params → IsKept scope input (Running (at_block f b (passed f.params (handed world f.params input.args) no_registers) []) [] world)
  entered_kept f b are =
      let kinds : AllByRecursion IsPassable (handed world f.params input.args) =
      subst (λ (ps : List Param). AllByRecursion IsPassable (handed world ps input.args)) (sym are) (handed_in_kind world 0 params input.args fits_all.arguments) in
      push_on scope input (at_block f b (passed f.params (handed world f.params input.args) no_registers) []) [] world refl
      (passed_in_kind f.params (handed world f.params input.args) no_registers kinds no_registers_in_kind)
      (passed_among made f.params (handed world f.params input.args) no_registers (handed_among world made (all_names scope input) f.params input.args) (λ x. tt))
      world_kept

-- ---- the start

kept_so : (scope : Scope) (input : Input) (r s : State) → r ≡ s → IsKept scope input r → IsKept scope input s
kept_so scope input r s is h = subst (IsKept scope input) is h

entry_kept : (m : Module) → HasShape m → (input : Input) (f : Function) (blocks : List Block) (s : State) → misfit (scope_of m) f.params input ≡ None
    → at_entry (world_at_start (scope_of m) input) f blocks input.args ≡ Some s → IsKept (scope_of m) input s
entry_kept m shape input f [] s fit is = absurd (cc)
entry_kept m shape input f (b ∷ bs) s fit is = kept_so (scope_of m) input _ s (some_same is) (entered_kept m shape input f.params fit f b refl)
  where
    some_same : {r s : State} → Some r ≡ Some s → r ≡ s
    some_same e = cc

unless_kept : (m : Module) → HasShape m → (input : Input) (f : Function) (s : State) (o : Option InputPath) → misfit (scope_of m) f.params input ≡ o
    → started_unless o (world_at_start (scope_of m) input) f input.args ≡ Some s → IsKept (scope_of m) input s
unless_kept m shape input f s None fit is = entry_kept m shape input f f.blocks s fit is
unless_kept m shape input f s (Some place) fit is = absurd (cc)

function_kept : (m : Module) → HasShape m → (input : Input) (s : State) (o : Option Function) → option_and_then (λ f. started (scope_of m) f input) o ≡ Some s → IsKept (scope_of m) input s
function_kept m shape input s None is = absurd (cc)
function_kept m shape input s (Some f) is = unless_kept m shape input f s (misfit (scope_of m) f.params input) refl is

pub starts_have_it : StartsHaveIt
starts_have_it m x input s well is = function_kept m well.shape input s (function_named x m.functions) is
