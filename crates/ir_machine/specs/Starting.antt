-- Where a run starts: the world that its globals and its input make, and the registers of its first frame.
use Rattle.std.specs.Prelude.{◌+◌, ◌^◌, ℕ, suc, Bool, true, false, ◌&&◌, not, cond, nat_eq, nat_lt, List, [], ◌∷◌, ◌++◌, length, map, replicate, Option, None, Some, find}
use Rattle.std.specs.List.{range_with_len}
use Rattle.std.specs.Option.{is_some, option_and_then, option_or}
use Rattle.ir_types.specs.declared.named.NamedTy.{NamedTy}
use Rattle.ir_types.specs.declared.names.Name.{Name}
use Rattle.ir_types.specs.Named.{size_of}
use Rattle.ir_types.specs.Same.{same_name}
use Rattle.ir_core.specs.declared.functions.Block.{Block}
use Rattle.ir_core.specs.declared.functions.Function.{Function}
use Rattle.ir_core.specs.declared.functions.Param.{Param}
use Rattle.ir_core.specs.declared.modules.GlobalVar.{GlobalVar}
use Rattle.ir_core.specs.declared.modules.Init.{Init}
use Rattle.ir_core.specs.declared.modules.Module.{Module}
use Rattle.ir_core.specs.declared.values.Byte.{Byte}
use Rattle.ir_core.specs.declared.values.Byte.TheVariants.{Num}
use Rattle.ir_core.specs.declared.values.Kind.{Kind}
use Rattle.ir_core.specs.declared.values.Kind.TheVariants as kind
use Rattle.ir_core.specs.declared.values.Value.{Value}
use Rattle.ir_core.specs.Types.{fits, kind_of}
use Rattle.ir_values.specs.Constants.{Scope}
use Rattle.block_memory.specs.declared.items.Shown.{Shown}
use Rattle.block_memory.specs.declared.items.Shown.TheVariants as shown
use Rattle.block_memory.specs.declared.items.ShownByte.{ShownByte}
use Rattle.block_memory.specs.declared.items.ShownByte.TheVariants as part
use Rattle.block_memory.specs.Memory.{Cell}
use Rattle.block_memory.specs.Names.{Names}
use Rattle.ir_machine.specs.declared.inputs.External.{External}
use Rattle.ir_machine.specs.declared.inputs.Input.{Input}
use Rattle.ir_machine.specs.declared.inputs.InputBlock.{InputBlock}
use Rattle.ir_machine.specs.declared.inputs.InputPath.{InputPath}
use Rattle.ir_machine.specs.declared.inputs.InputPath.TheVariants as path
use Rattle.ir_machine.specs.Registers.{align_or, no_registers}
use Rattle.ir_machine.specs.Scalars.{initial_bytes}
use Rattle.ir_machine.specs.State.{World, State, Running, no_world, scope_of}
use Rattle.ir_machine.specs.Machine.{at_block, function_named, given_byte, is_offset, passed, resolve}

-- arguments, and nothing else
abbrev pub given : List Shown → Input
given args = record { args = args; blocks = []; externals = [] }

-- ---- the world

-- the globals and the blocks of the input have the names from 0 on, each bound to the block of its number
abbrev pub names_at_start : Scope → Input → Names
names_at_start scope input = map Some (range_with_len 0 (length scope.globals + length input.blocks))

-- a byte that the input gives
abbrev pub byte_given : Scope → Input → ShownByte → Byte
byte_given scope input = given_byte (record no_world { names = names_at_start scope input })

-- the first bytes that the input gives to a global of that name
abbrev pub external_named : Name → List External → Option External
external_named x es = find (λ e. same_name e.name x) es

-- an external global to which the input gives nothing is 0 in every byte
abbrev pub external_bytes : Scope → Input → ℕ → Option External → List Byte
external_bytes scope input size None = replicate size (Num 0)
external_bytes scope input size (Some e) = map (byte_given scope input) e.bytes

-- a global holds what its initialiser tells; one without is external
abbrev pub global_bytes : Scope → Input → GlobalVar → Option Init → List Byte
global_bytes scope input g (Some i) = initial_bytes scope g.ty i
global_bytes scope input g None = external_bytes scope input (size_of scope.types g.ty) (external_named g.name input.externals)

-- a global's block, at the alignment that is stated for it, or its type's
abbrev pub global_cell : Scope → Input → GlobalVar → Cell
global_cell scope input g =
    record { align = align_or scope.types g.ty g.align; live = true; bytes = global_bytes scope input g g.init }

abbrev pub input_cell : Scope → Input → InputBlock → Cell
input_cell scope input b = record { align = b.align; live = true; bytes = map (byte_given scope input) b.bytes }

-- the blocks of the globals, in the order of the file, and then those of the input
abbrev pub world_at_start : Scope → Input → World
world_at_start scope input = record {
  memory = map (global_cell scope input) scope.globals ++ map (input_cell scope input) input.blocks;
  names = names_at_start scope input;
}

-- ---- what doesn't fit

-- at that place, if it doesn't fit
abbrev pub unless : Bool → InputPath → Option InputPath
unless fitting place = cond fitting None (Some place)

-- what doesn't fit first of a list, by what doesn't fit of one that stands at a place
abbrev pub first_of : {A : Type 0} → (ℕ → A → Option InputPath) → ℕ → List A → Option InputPath
first_of one place [] = None
first_of one place (x ∷ xs) = option_or (one place x) (first_of one (suc place) xs)

-- an argument at a place, of a parameter's kind: a number within its width, an address of no block, or a name that there is, each in range
abbrev pub argument_misfit : Names → Option Kind → Shown → ℕ → Option InputPath
argument_misfit names (Some (kind.Int width)) (shown.Num n) at = unless (fits n width) (path.Argument at)
argument_misfit names (Some kind.Ptr) (shown.Name x offset) at = unless (is_offset offset && nat_lt x (length names)) (path.ArgumentName at)
argument_misfit names (Some kind.Ptr) (shown.Bare address) at = unless (nat_lt address (2 ^ 64)) (path.Argument at)
argument_misfit names k s at = Some (path.Argument at)

abbrev pub arguments_misfit : Names → ℕ → List Param → List Shown → Option InputPath
arguments_misfit names at (p ∷ params) (a ∷ args) =
    option_or (argument_misfit names (kind_of p.ty) a at) (arguments_misfit names (suc at) params args)
arguments_misfit names at params args = None

-- one for each parameter
abbrev pub number_misfit : List Param → List Shown → Option InputPath
number_misfit params args = unless (nat_eq (length params) (length args)) path.Arguments

-- a number of a byte, or a part of a pointer to a name that there is
abbrev pub is_named_byte : Names → ShownByte → Bool
is_named_byte names (part.Num n) = nat_lt n 256
is_named_byte names (part.Frag x offset place) = is_offset offset && nat_lt x (length names)

abbrev pub bytes_misfit : Names → (ℕ → InputPath) → List ShownByte → Option InputPath
bytes_misfit names place bytes = first_of (λ j b. unless (is_named_byte names b) (place j)) 0 bytes

abbrev pub block_misfit : Names → ℕ → InputBlock → Option InputPath
block_misfit names i b = bytes_misfit names (path.BlockByte i) b.bytes

-- the global of that name is external, and has so many bytes
abbrev pub is_external : List NamedTy → ℕ → Option GlobalVar → Bool
is_external types size None = false
is_external types size (Some g) = not (is_some g.init) && nat_eq (size_of types g.ty) size

abbrev pub external_misfit : Scope → Names → ℕ → External → Option InputPath
external_misfit scope names i e =
    option_or (unless (is_external scope.types (length e.bytes) (find (λ (g : GlobalVar). same_name g.name e.name) scope.globals)) (path.External i))
    (bytes_misfit names (path.ExternalByte i) e.bytes)

-- THE first place at which an input doesn't fit a function of such parameters, if it doesn't: its arguments, its blocks, then its bytes of
-- external globals, a list before what is in it
abbrev pub misfit : Scope → List Param → Input → Option InputPath
misfit scope params input =
    let names : Names = names_at_start scope input in
    option_or (number_misfit params input.args)
    (option_or (arguments_misfit names 0 params input.args)
    (option_or (first_of (block_misfit names) 0 input.blocks) (first_of (external_misfit scope names) 0 input.externals)))

-- ---- the start

-- what is passed: each argument, at its parameter's kind
abbrev pub handed : World → List Param → List Shown → List (Option Kind × Value)
handed world (p ∷ params) (a ∷ args) = (kind_of p.ty, resolve world a) ∷ handed world params args
handed world params args = []

-- the run stands at the start of the first block
abbrev pub at_entry : World → Function → List Block → List Shown → Option State
at_entry world f [] args = None
at_entry world f (b ∷ bs) args = Some (Running (at_block f b (passed f.params (handed world f.params args) no_registers) []) [] world)

abbrev pub started_unless : Option InputPath → World → Function → List Shown → Option State
started_unless (Some place) world f args = None
started_unless None world f args = at_entry world f f.blocks args

abbrev pub started : Scope → Function → Input → Option State
started scope f input = started_unless (misfit scope f.params input) (world_at_start scope input) f input.args

-- Where a run of that function on that input starts: nowhere without the function, or where the input doesn't fit it.
abbrev pub start : Module → Name → Input → Option State
start m x input = option_and_then (λ f. started (scope_of m) f input) (function_named x m.functions)
