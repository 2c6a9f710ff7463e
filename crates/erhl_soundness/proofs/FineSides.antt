-- Each scope has a fine side, each start is on one, and in a module of well-formed shape the name of each global leads to it.
use Rattle.std.proofs.Common.{◌≡◌, ◌<◌, ◌≤◌, ℕ, zero, suc, pos, ◌+◌, true, List, [], ◌∷◌, ◌++◌, length, map, replicate, Option, None, Some, refl, sym, ap, subst, ◌∙◌, arith, slice_get, length-append, ⊎_elim}
use Rattle.std.specs.List.{AllByRecursion, Contains, range_with_len}
use Rattle.std.specs.Option.{option_and_then}
use Rattle.std.proofs.lemmas.Bool.{cases_Bool, cond-true, cond-false}
use Rattle.std.proofs.lemmas.List.{length-map}
use Rattle.std.proofs.lemmas.List.Elements.{Contains-append_left, Contains-append_right}
use Rattle.ir_types.specs.declared.names.Name.{Name}
use Rattle.ir_types.specs.NameLaws.{same_name_refl, same_name_true}
use Rattle.ir_types.specs.Named.{size_of}
use Rattle.ir_types.specs.Same.{same_name}
use Rattle.ir_core.specs.declared.functions.Block.{Block}
use Rattle.ir_core.specs.declared.functions.Function.{Function}
use Rattle.ir_core.specs.declared.functions.Param.{Param}
use Rattle.ir_core.specs.declared.modules.GlobalVar.{GlobalVar}
use Rattle.ir_core.specs.declared.modules.Init.{Init}
use Rattle.ir_core.specs.declared.values.Byte.TheVariants as byte
use Rattle.ir_core.specs.declared.values.Kind.{Kind}
use Rattle.ir_core.specs.declared.values.Value.{Value}
use Rattle.ir_core.specs.declared.values.Value.TheVariants.{Ptr}
use Rattle.ir_core.specs.Order.{AreNew}
use Rattle.ir_values.specs.Constants.{Scope, global_at}
use Rattle.block_memory.specs.declared.items.Shown.{Shown}
use Rattle.block_memory.specs.declared.items.ShownByte.{ShownByte}
use Rattle.block_memory.specs.Memory.{Cell}
use Rattle.ir_machine.specs.declared.inputs.External.{External}
use Rattle.ir_machine.specs.declared.inputs.Input.{Input}
use Rattle.ir_machine.specs.declared.inputs.InputPath.{InputPath}
use Rattle.ir_machine.specs.Keeps.{IsAmong, IsByteAmong, IsMade, IsNameAmong}
use Rattle.ir_machine.specs.Machine.{function_named}
use Rattle.ir_machine.specs.Registers.{no_registers}
use Rattle.ir_machine.specs.Scalars.{initial_bytes}
use Rattle.ir_machine.specs.Starting.{at_entry, byte_given, external_bytes, external_named, given, global_bytes, global_cell, handed, input_cell, misfit, names_at_start, started, started_unless, world_at_start}
use Rattle.ir_machine.specs.State.{Over, Running, State, Waiting, World, no_world, scope_of}
use Rattle.ir_machine.proofs.HeldConstants.{IsGoodByte, each_mapped, initial_good}
use Rattle.ir_machine.proofs.Holding.{passed_among}
use Rattle.ir_machine.proofs.InKind.{no_registers_in_kind}
use Rattle.ir_machine.proofs.Keeping.{all_joined, all_on}
use Rattle.ir_machine.proofs.KeptSteps.{given_among, resolve_among}
use Rattle.ir_machine.proofs.Passing.{fitting}
use Rattle.ir_machine.proofs.Setting.{new_apart}
use Rattle.erhl_assert.specs.Sides.{IsFine, SideState, side_of}
use Rattle.erhl_soundness.specs.MemoryLaws.{FineSidesAreThere}
use Rattle.erhl_soundness.specs.TwoSides.{HoldsMade}
use Rattle.erhl_soundness.proofs.Entering.{entering, entering_in_kind}
use Rattle.erhl_soundness.proofs.Worlds.{starts_there}

name_inside : (gs : List GlobalVar) (k : ℕ) (g : GlobalVar) → slice_get gs k ≡ Some g → Contains (map (λ (g : GlobalVar). g.name) gs) g.name
name_inside [] k g got = absurd (cc)
name_inside (h ∷ gs) zero g got = let same : h ≡ g = cc in (zero, omega arith, ap (λ (z : GlobalVar). z.name) same)
name_inside (h ∷ gs) (suc k) g got =
    let more = name_inside gs k g got in
    (suc more.0, omega (arith, more.1), more.2)

-- where no two names are one, each leads to its own
leads : (place : ℕ) (gs : List GlobalVar) (behind taken : List Name) (k n : ℕ) (g : GlobalVar) → n ≡ place + k → AreNew taken (map (λ (g : GlobalVar). g.name) gs ++ behind)
    → slice_get gs k ≡ Some g → global_at place gs g.name ≡ Ptr n (pos 0)
leads place [] behind taken k n g is new got = absurd (cc)
leads place (h ∷ gs) behind taken zero n g is new got =
    let same : h ≡ g = cc in
    let here : place ≡ n = omega (arith, is) in
    cond-true (same_name h.name g.name) (Ptr place (pos 0)) (global_at (suc place) gs g.name) (subst (λ (f : GlobalVar). same_name f.name g.name ≡ true) (sym same) (same_name_refl g.name))
    ∙ ap (λ b. Ptr b (pos 0)) here
leads place (h ∷ gs) behind taken (suc k) n g is new got = ⊎_elim
    (λ e.
    let again : Contains (map (λ (g : GlobalVar). g.name) gs ++ behind) g.name =
    Contains-append_left (map (λ (g : GlobalVar). g.name) gs) behind g.name (name_inside gs k g got) in
    absurd (new_apart (taken ++ h.name ∷ []) (map (λ (g : GlobalVar). g.name) gs ++ behind) g.name new.1
    (Contains-append_right taken (h.name ∷ []) g.name (zero, omega arith, same_name_true h.name g.name e)) again))
    (λ e.
    cond-false (same_name h.name g.name) (Ptr place (pos 0)) (global_at (suc place) gs g.name) e
    ∙ leads (suc place) gs behind (taken ++ h.name ∷ []) k n g (omega (arith, is)) new.1 got)
    (cases_Bool (same_name h.name g.name))

-- the start of a function without parameters, on an input that gives nothing
abbrev at_start : Scope → SideState
at_start scope = side_of scope no_registers [] (world_at_start scope (given []))

fine_at_start : (scope : Scope) → IsFine (at_start scope)
fine_at_start scope =
    let there = starts_there scope (given []) [] refl in
    record {
      now = no_registers_in_kind;
      old = no_registers_in_kind;
      ghost = no_registers_in_kind;
      bytes = there.bytes;
      globals = there.globals;
      named = there.named;
      once = there.once;
    }

-- ---- each start

names_below : (from n many : ℕ) → from + n ≤ many → AllByRecursion (IsNameAmong (λ b. b < many)) (map Some (range_with_len from n))
names_below from zero many long = tt
names_below from (suc n) many long = (omega (arith, long), names_below (from + 1) n many (omega (arith, long)))

-- its bytes, names and registers hold blocks alone that there are
module _ (scope : Scope) (input : Input) where
  abbrev world : World
  world = world_at_start scope input

  abbrev made : ℕ → Type 0
  made = IsMade world.memory

  many : length world.memory ≡ length scope.globals + length input.blocks
  many =
      let joined = length-append (map (global_cell scope input) scope.globals) (map (input_cell scope input) input.blocks) in
      let globals = length-map scope.globals (global_cell scope input) in
      let blocks = length-map input.blocks (input_cell scope input) in
      omega (arith, joined, globals, blocks)

  names_made : AllByRecursion (IsNameAmong made) world.names
  names_made = names_below 0 (length scope.globals + length input.blocks) (length world.memory) (omega (arith, many))

  given_made : (bytes : List ShownByte) → AllByRecursion (IsByteAmong made) (map (byte_given scope input) bytes)
  given_made bytes =
      each_mapped (IsByteAmong made) (byte_given scope input) (λ s. given_among made (record no_world { names = names_at_start scope input }) s names_made) bytes

  zeros_made : (n : ℕ) → AllByRecursion (IsByteAmong made) (replicate n (byte.Num 0))
  zeros_made zero = tt
  zeros_made (suc n) = (tt, zeros_made n)

  external_made : (size : ℕ) (o : Option External) → AllByRecursion (IsByteAmong made) (external_bytes scope input size o)
  external_made size None = zeros_made size
  external_made size (Some e) = given_made e.bytes

  global_made : (g : GlobalVar) (o : Option Init) → AllByRecursion (IsByteAmong made) (global_bytes scope input g o)
  global_made g (Some i) =
      all_on (IsGoodByte made) (IsByteAmong made) (λ b h. h.1) (initial_bytes scope g.ty i) (initial_good made scope (λ k below. omega (arith, below, many)) g.ty i)
  global_made g None = external_made (size_of scope.types g.ty) (external_named g.name input.externals)

  bytes_made : AllByRecursion (λ (c : Cell). AllByRecursion (IsByteAmong made) c.bytes) world.memory
  bytes_made =
      all_joined (λ (c : Cell). AllByRecursion (IsByteAmong made) c.bytes) (map (global_cell scope input) scope.globals) (map (input_cell scope input) input.blocks)
      (each_mapped (λ (c : Cell). AllByRecursion (IsByteAmong made) c.bytes) (global_cell scope input) (λ g. global_made g g.init) scope.globals)
      (each_mapped (λ (c : Cell). AllByRecursion (IsByteAmong made) c.bytes) (input_cell scope input) (λ b. given_made b.bytes) input.blocks)

  handed_made : (ps : List Param) (args : List Shown) → AllByRecursion (λ (v : Option Kind × Value). IsAmong made v.1) (handed world ps args)
  handed_made [] args = tt
  handed_made (p ∷ ps) [] = tt
  handed_made (p ∷ ps) (a ∷ args) = (resolve_among made world a names_made, handed_made ps args)

  abbrev IsStart : State → Type 0
  IsStart (Running frame rest here) = IsFine (side_of scope frame.registers frame.own here) × HoldsMade (side_of scope frame.registers frame.own here)
  IsStart (Waiting p rest here) = Unit {0}
  IsStart Over = Unit {0}

  pub begins : (f : Function) → misfit scope f.params input ≡ None → IsFine (side_of scope (entering world f.params input.args) [] world)
      × HoldsMade (side_of scope (entering world f.params input.args) [] world)
  begins f fit =
      let there = starts_there scope input f.params fit in
      let fits = fitting scope input f.params fit in (
        record {
          now = entering_in_kind world f.params input.args fits.arguments;
          old = no_registers_in_kind;
          ghost = no_registers_in_kind;
          bytes = there.bytes;
          globals = there.globals;
          named = there.named;
          once = there.once;
        },
        record {
          now = passed_among made f.params (handed world f.params input.args) no_registers (handed_made f.params input.args) (λ x. tt);
          old = λ x. tt;
          ghost = λ x. tt;
          others = tt;
          bytes = bytes_made;
          names = names_made;
        },
      )

  at_first : (f : Function) (blocks : List Block) (s : State) → misfit scope f.params input ≡ None → at_entry world f blocks input.args ≡ Some s → IsStart s
  at_first f [] s fit is = absurd (cc)
  at_first f (b ∷ bs) s fit is = subst IsStart (some_same is) (begins f fit)
    where
      some_same : {r s : State} → Some r ≡ Some s → r ≡ s
      some_same e = cc

  where_fits : (f : Function) (o : Option InputPath) (s : State) → misfit scope f.params input ≡ o → started_unless o world f input.args ≡ Some s → IsStart s
  where_fits f None s fit is = at_first f f.blocks s fit is
  where_fits f (Some place) s fit is = absurd (cc)

  of_function : (o : Option Function) (s : State) → option_and_then (λ f. started scope f input) o ≡ Some s → IsStart s
  of_function None s is = absurd (cc)
  of_function (Some f) s is = where_fits f (misfit scope f.params input) s refl is

pub fine_sides : FineSidesAreThere
fine_sides = record {
  of_each_scope = λ scope. (at_start scope, refl, fine_at_start scope);
  of_each_start = λ m f input frame rest world is. of_function (scope_of m) input (function_named f m.functions) (Running frame rest world) is;
  of_each_global = λ m shape k g got. leads 0 m.globals _ [] k k g (omega arith) shape.names got;
}
