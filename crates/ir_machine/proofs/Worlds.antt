-- The world in which a run starts holds bytes in their ranges, and parts of pointers to its own blocks alone.
use Rattle.std.proofs.Common.{◌≡◌, ℕ, zero, suc, ◌<◌, ◌≤◌, ◌+◌, true, List, [], ◌∷◌, length, map, replicate, Option, None, Some, find, refl, arith}
use Rattle.std.specs.List.{AllByRecursion, range_with_len}
use Rattle.std.proofs.lemmas.List.{length-append, length-map}
use Rattle.ir_types.specs.Named.{size_of}
use Rattle.ir_types.specs.Same.{same_name}
use Rattle.ir_core.specs.declared.modules.GlobalVar.{GlobalVar}
use Rattle.ir_core.specs.declared.modules.Init.{Init}
use Rattle.ir_core.specs.declared.values.Byte.{Byte}
use Rattle.ir_core.specs.declared.values.Byte.TheVariants as byte
use Rattle.ir_values.specs.Constants.{Scope}
use Rattle.block_memory.specs.declared.items.ShownByte.{ShownByte}
use Rattle.block_memory.specs.declared.items.ShownByte.TheVariants as part
use Rattle.block_memory.specs.Bytes.{IsByte}
use Rattle.block_memory.specs.Laws.{IsOfBytes}
use Rattle.block_memory.specs.Memory.{Cell}
use Rattle.block_memory.specs.Names.{Names}
use Rattle.ir_machine.specs.declared.inputs.External.{External}
use Rattle.ir_machine.specs.declared.inputs.Input.{Input}
use Rattle.ir_machine.specs.declared.inputs.InputBlock.{InputBlock}
use Rattle.ir_machine.specs.declared.inputs.InputPath.{InputPath}
use Rattle.ir_machine.specs.declared.inputs.InputPath.TheVariants as path
use Rattle.ir_machine.specs.Keeps.{IsMade, IsNameAmong, count_at_start}
use Rattle.ir_machine.specs.Machine.{is_byte_of}
use Rattle.ir_machine.specs.Starting.{block_misfit, byte_given, bytes_misfit, external_bytes, external_misfit, external_named, first_of, global_bytes, global_cell, input_cell, is_external, is_named_byte, names_at_start, unless, world_at_start}
use Rattle.ir_machine.specs.State.{World, no_world}
use Rattle.ir_machine.proofs.Finding.{found_inside}
use Rattle.ir_machine.proofs.HeldConstants.{IsGoodByte, each_mapped, initial_good}
use Rattle.ir_machine.proofs.Keeping.{all_in, all_joined, all_on}
use Rattle.ir_machine.proofs.KeptSteps.{given_among, given_is_byte}
use Rattle.ir_machine.proofs.Unfitting.{all_fit, or_none, unless_none}

-- ---- lists

all_mapped : {A B : Type 0} (P : B → Type 0) (f : A → B) (xs : List A) → AllByRecursion (λ x. P (f x)) xs → AllByRecursion P (map f xs)
all_mapped P f [] h = tt
all_mapped P f (x ∷ xs) h = (h.0, all_mapped P f xs h.1)

all_copies : (Q : Byte → Type 0) (n : ℕ) (b : Byte) → Q b → AllByRecursion Q (replicate n b)
all_copies Q zero b h = tt
all_copies Q (suc n) b h = (h, all_copies Q n b h)

names_below : (from n many : ℕ) → from + n ≤ many → AllByRecursion (IsNameAmong (λ b. b < many)) (map Some (range_with_len from n))
names_below from zero many long = tt
names_below from (suc n) many long = (omega (arith, long), names_below (from + 1) n many (omega (arith, long)))

-- ---- the world

module _ (scope : Scope) (input : Input) where
  abbrev world : World
  world = world_at_start scope input

  abbrev names : Names
  names = names_at_start scope input

  abbrev count : ℕ
  count = count_at_start scope input

  abbrev made : ℕ → Type 0
  made = IsMade world.memory

  long : length world.memory ≡ count
  long =
      let joined = length-append (map (global_cell scope input) scope.globals) (map (input_cell scope input) input.blocks) in
      let globals = length-map scope.globals (global_cell scope input) in
      let blocks = length-map input.blocks (input_cell scope input) in
      omega (arith, joined, globals, blocks)

  pub all_names : AllByRecursion (IsNameAmong made) names
  all_names = names_below 0 count (length world.memory) (omega (arith, long))

  -- bytes that are given
  given_good : (s : ShownByte) → is_named_byte names s ≡ true → IsGoodByte made (byte_given scope input s)
  given_good s h = (given_is_byte (record no_world { names = names }) s (named_byte s h), given_among made (record no_world { names = names }) s all_names)
    where
      named_byte : (s : ShownByte) → is_named_byte names s ≡ true → is_byte_of (record no_world { names = names }) s ≡ true
      named_byte (part.Num n) h = h
      named_byte (part.Frag x offset place) h = h

  given_bytes : (place : ℕ → InputPath) (bytes : List ShownByte) → bytes_misfit names place bytes ≡ None → AllByRecursion (IsGoodByte made) (map (byte_given scope input) bytes)
  given_bytes place bytes h =
      all_mapped (IsGoodByte made) (byte_given scope input) bytes
      (all_fit (λ s. IsGoodByte made (byte_given scope input s)) (λ j s. unless (is_named_byte names s) (place j))
      (λ j s fits. given_good s (unless_none (is_named_byte names s) (place j) fits)) 0 bytes h)

  -- what an external global is given
  pub record IsOfGlobal (e : External) : Type 0 where
    pub global : is_external scope.types (length e.bytes) (find (λ (g : GlobalVar). same_name g.name e.name) scope.globals) ≡ true
    pub bytes : AllByRecursion (IsGoodByte made) (map (byte_given scope input) e.bytes)

  of_external : (at : ℕ) (e : External) → external_misfit scope names at e ≡ None → IsOfGlobal e
  of_external at e h =
      let parts = or_none _ (bytes_misfit names (path.ExternalByte at) e.bytes) h in
      record { global = unless_none _ (path.External at) parts.0; bytes = given_bytes (path.ExternalByte at) e.bytes parts.1 }

  module _ (externals : first_of (external_misfit scope names) 0 input.externals ≡ None) where
    pub all_of_globals : AllByRecursion IsOfGlobal input.externals
    all_of_globals = all_fit IsOfGlobal (external_misfit scope names) of_external 0 input.externals externals

    external_good : (g : GlobalVar) (o : Option External) → external_named g.name input.externals ≡ o → AllByRecursion (IsGoodByte made) (external_bytes scope input (size_of scope.types g.ty) o)
    external_good g None is = all_copies (IsGoodByte made) (size_of scope.types g.ty) (byte.Num 0) (omega arith, tt)
    external_good g (Some e) is = (all_in IsOfGlobal input.externals all_of_globals e (found_inside (λ (e : External). same_name e.name g.name) input.externals e is)).bytes

    global_good : (g : GlobalVar) (o : Option Init) → AllByRecursion (IsGoodByte made) (global_bytes scope input g o)
    global_good g (Some i) = initial_good made scope (λ k below. (let so = below in omega (arith, so, long))) g.ty i
    global_good g None = external_good g (external_named g.name input.externals) refl

    module _ (blocks : first_of (block_misfit names) 0 input.blocks ≡ None) where
      pub memory_good : AllByRecursion (λ (c : Cell). AllByRecursion (IsGoodByte made) c.bytes) world.memory
      memory_good =
          all_joined (λ (c : Cell). AllByRecursion (IsGoodByte made) c.bytes) (map (global_cell scope input) scope.globals) (map (input_cell scope input) input.blocks)
          (each_mapped (λ (c : Cell). AllByRecursion (IsGoodByte made) c.bytes) (global_cell scope input) (λ g. global_good g g.init) scope.globals)
          (all_mapped (λ (c : Cell). AllByRecursion (IsGoodByte made) c.bytes) (input_cell scope input) input.blocks
          (all_fit (λ (b : InputBlock). AllByRecursion (IsGoodByte made) (map (byte_given scope input) b.bytes)) (block_misfit names)
          (λ at b h. given_bytes (path.BlockByte at) b.bytes h) 0 input.blocks blocks))

      pub starts_of_bytes : IsOfBytes world.memory
      starts_of_bytes =
          all_on (λ (c : Cell). AllByRecursion (IsGoodByte made) c.bytes) (λ (c : Cell). AllByRecursion IsByte c.bytes)
          (λ c h. all_on (IsGoodByte made) IsByte (λ b k. k.0) c.bytes h) world.memory memory_good
