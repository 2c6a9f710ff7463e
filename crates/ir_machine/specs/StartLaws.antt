-- Where runs start, of modules that are written out with numbers for names: an example of each case, worked out by hand from the LangRef.
use Rattle.std.specs.Prelude.{◌≡◌, ◌^◌, ℕ, ℤ, pos, true, List, [], ◌∷◌, Option, None, Some, replicate}
use Rattle.ir_types.specs.declared.names.Name.TheVariants.{Number}
use Rattle.ir_types.specs.declared.ty.Ty.{Ty, Array, Int, Named, Ptr, Struct, Void}
use Rattle.ir_core.specs.declared.functions.Function.{Function}
use Rattle.ir_core.specs.declared.functions.Param.{Param}
use Rattle.ir_core.specs.declared.functions.Term.TheVariants.{RetVoid}
use Rattle.ir_core.specs.declared.modules.GlobalVar.{GlobalVar}
use Rattle.ir_core.specs.declared.modules.Init.{Init, Const, Zero}
use Rattle.ir_core.specs.declared.modules.Init as init
use Rattle.ir_core.specs.declared.modules.Module.{Module}
use Rattle.ir_core.specs.declared.operands.Const as constant
use Rattle.ir_core.specs.declared.values.Byte.{Byte}
use Rattle.ir_core.specs.declared.values.Byte.TheVariants as byte
use Rattle.ir_core.specs.declared.values.Kind.TheVariants as kind
use Rattle.ir_core.specs.declared.values.Value.TheVariants as value
use Rattle.ir_core.specs.Modules.{plain_function, plain_module, plain_param}
use Rattle.ir_values.specs.ConstantExamples.{global, pair, second}
use Rattle.ir_values.specs.ConstantExamples as constants
use Rattle.ir_values.specs.Constants.{Scope}
use Rattle.block_memory.specs.declared.items.Shown.{Shown}
use Rattle.block_memory.specs.declared.items.Shown.TheVariants as shown
use Rattle.block_memory.specs.declared.items.ShownByte.{ShownByte}
use Rattle.block_memory.specs.declared.items.ShownByte.TheVariants as part
use Rattle.block_memory.specs.Memory.{Cell}
use Rattle.ir_machine.specs.declared.inputs.External.{External}
use Rattle.ir_machine.specs.declared.inputs.Input.{Input}
use Rattle.ir_machine.specs.declared.inputs.InputBlock.{InputBlock}
use Rattle.ir_machine.specs.declared.inputs.InputPath.{InputPath}
use Rattle.ir_machine.specs.declared.inputs.InputPath.TheVariants as path
use Rattle.ir_machine.specs.FlowExamples.{block}
use Rattle.ir_machine.specs.Machine.{at_block}
use Rattle.ir_machine.specs.Registers.{no_registers, set}
use Rattle.ir_machine.specs.Scalars.{initial_bytes}
use Rattle.ir_machine.specs.Starting.{misfit, start, world_at_start}
use Rattle.ir_machine.specs.State.{Running, World}

-- ---- bytes of initialisers

-- bytes that are numbers, before others
abbrev pub numbers : List ℕ → List Byte → List Byte
numbers [] more = more
numbers (n ∷ ns) more = byte.Num n ∷ numbers ns more

abbrev pub undef : ℕ → List Byte
undef size = replicate size byte.Undef

abbrev pub of_number : ℕ → Init
of_number n = Const (constant.Number n)

-- the parts of a pointer
abbrev pub parts_of : ℕ → ℤ → List Byte
parts_of b offset =
    byte.Frag b offset 0 ∷ byte.Frag b offset 1 ∷ byte.Frag b offset 2 ∷ byte.Frag b offset 3
    ∷ byte.Frag b offset 4 ∷ byte.Frag b offset 5 ∷ byte.Frag b offset 6 ∷ byte.Frag b offset 7 ∷ []

-- beside @0 = external global i32  @1 = external global { i8, i32 }
abbrev pub bytes : Ty → Init → List Byte
bytes = initial_bytes constants.scope

-- %1 = type { i8, i32 }
abbrev pub beside_pair : Scope
beside_pair = record { types = record { name = Number 1; fields = Some (Int 8 ∷ Int 32 ∷ []) } ∷ []; globals = [] }

-- @1 = external global i16  @1 = external global i8
abbrev pub beside_two : Scope
beside_two = record { types = []; globals = global 1 (Int 16) ∷ global 1 (Int 8) ∷ [] }

-- a byte, 3 bytes that are nothing's, and 4 bytes of zero
abbrev pub zero_pair : List Byte
zero_pair = numbers (0 ∷ []) (byte.Undef ∷ byte.Undef ∷ byte.Undef ∷ numbers (0 ∷ 0 ∷ 0 ∷ 0 ∷ []) [])

-- The first of two globals of one name counts. 258 is 1 * 256 + 2, and its least byte comes first; 65537 is 1 * 256 * 256 + 1, and i17 has 3 bytes, which lie in 4.
pub record InitialisersAreBytes : Type 0 where
  pub fields : bytes pair (init.Struct ((Int 8, of_number 1) ∷ (Int 32, of_number 258) ∷ []))
      ≡ numbers (1 ∷ []) (byte.Undef ∷ byte.Undef ∷ byte.Undef ∷ numbers (2 ∷ 1 ∷ 0 ∷ 0 ∷ []) [])
  pub zero : bytes pair Zero ≡ zero_pair
  pub zero_of_name : initial_bytes beside_pair (Named (Number 1)) Zero ≡ zero_pair
  pub text : bytes (Array 3 (Int 8)) (init.Bytes (97 ∷ 98 ∷ 0 ∷ [])) ≡ numbers (97 ∷ 98 ∷ 0 ∷ []) []
  pub odd : bytes (Int 17) (of_number 65537) ≡ numbers (1 ∷ 0 ∷ 1 ∷ []) (byte.Undef ∷ [])
  pub elements : bytes (Array 2 (Int 16)) (init.Array ((Int 16, of_number 1) ∷ (Int 16, of_number 2) ∷ [])) ≡ numbers (1 ∷ 0 ∷ 2 ∷ 0 ∷ []) []
  pub address : bytes (Struct (Ptr (Int 32) ∷ [])) (init.Struct ((Ptr (Int 32), Const second) ∷ [])) ≡ parts_of 1 (pos 4)
  pub of_two_globals : initial_bytes beside_two (Ptr (Int 16)) (Const (constant.Global (Number 1))) ≡ parts_of 0 (pos 0)
  pub null : bytes (Ptr (Int 8)) (Const constant.Null) ≡ numbers (0 ∷ 0 ∷ 0 ∷ 0 ∷ 0 ∷ 0 ∷ 0 ∷ 0 ∷ []) []
  pub undef_array : bytes (Array 2 (Int 16)) (Const constant.Undef) ≡ byte.Undef ∷ byte.Undef ∷ byte.Undef ∷ byte.Undef ∷ []
  pub poison : bytes (Int 8) (of_number 256) ≡ byte.Poison ∷ []
  pub none : bytes (Array 4294967295 (Struct [])) Zero ≡ []
  pub opaque : bytes (Struct (Int 8 ∷ Named (Number 9) ∷ [])) Zero ≡ []

-- ---- worlds

-- @0 = global { i8, i32 } zeroinitializer, align 16  @1 = external global i16  @2 = external global { i8, i32 }
abbrev pub the_globals : List GlobalVar
the_globals = record (global 0 pair) { init = Some Zero; align = Some 16 } ∷ global 1 (Int 16) ∷ global 2 pair ∷ []

abbrev pub beside_globals : Scope
beside_globals = record { types = []; globals = the_globals }

abbrev pub cell : ℕ → List Byte → Cell
cell align bytes = record { align = align; live = true; bytes = bytes }

-- bytes for a global
abbrev pub for_global : ℕ → List ShownByte → External
for_global n bytes = record { name = Number n; bytes = bytes }

-- a block whose first byte is a part of an address in @1, and bytes for @1, of which the first is a part of an address in that block
abbrev pub the_input : Input
the_input = record {
  args = [];
  blocks = record { align = 2; bytes = part.Frag 1 (pos 0) 5 ∷ part.Num 9 ∷ [] } ∷ [];
  externals = for_global 1 (part.Frag 3 (pos 1) 0 ∷ part.Num 7 ∷ []) ∷ for_global 1 (part.Num 1 ∷ part.Num 1 ∷ []) ∷ [];
}

-- Globals come first, and then blocks of the input, each under the name of its number. An external global that isn't given is 0, between its
-- fields too.
abbrev pub the_world : World
the_world = record {
  memory = cell 16 zero_pair ∷ cell 2 (byte.Frag 3 (pos 1) 0 ∷ byte.Num 7 ∷ []) ∷ cell 4 (numbers (0 ∷ 0 ∷ 0 ∷ 0 ∷ 0 ∷ 0 ∷ 0 ∷ 0 ∷ []) [])
      ∷ cell 2 (byte.Frag 1 (pos 0) 5 ∷ byte.Num 9 ∷ []) ∷ [];
  names = Some 0 ∷ Some 1 ∷ Some 2 ∷ Some 3 ∷ [];
}

pub record WorldsAreMade : Type 0 where
  pub world : world_at_start beside_globals the_input ≡ the_world
  pub empty : world_at_start (record { types = []; globals = [] }) (record { args = []; blocks = []; externals = [] }) ≡ record { memory = []; names = [] }

-- ---- what doesn't fit

-- i8 %1, i8* %2
abbrev pub the_params : List Param
the_params = plain_param (Int 8) (Number 1) ∷ plain_param (Ptr (Int 8)) (Number 2) ∷ []

-- what doesn't fit those first, beside the globals
abbrev pub unfit : List Shown → List InputBlock → List External → Option InputPath
unfit args blocks externals = misfit beside_globals the_params (record { args = args; blocks = blocks; externals = externals })

-- i8 255, i8* the name that is last, one byte behind it
abbrev pub good : List Shown
good = shown.Num 255 ∷ shown.Name 3 (pos 1) ∷ []

abbrev pub a_block : List ShownByte → InputBlock
a_block bytes = record { align = 1; bytes = bytes }

-- a block of one number
abbrev pub good_block : InputBlock
good_block = a_block (part.Num 255 ∷ [])

-- two bytes, the second of which gives a name that isn't there
abbrev pub bad_second : List ShownByte
bad_second = part.Num 0 ∷ part.Frag 4 (pos 0) 0 ∷ []

pub record ArgumentsFit : Type 0 where
  pub all : unfit good (good_block ∷ []) (for_global 1 (part.Num 0 ∷ part.Frag 3 (pos 0) 0 ∷ []) ∷ []) ≡ None
  pub address : unfit (shown.Num 0 ∷ shown.Bare 0 ∷ []) [] [] ≡ None
  pub few : unfit (shown.Num 0 ∷ []) [] [] ≡ Some path.Arguments
  pub many : unfit (shown.Num 0 ∷ shown.Bare 0 ∷ shown.Num 0 ∷ []) [] [] ≡ Some path.Arguments
  pub past_width : unfit (shown.Num 256 ∷ shown.Bare 0 ∷ []) [] [] ≡ Some (path.Argument 0)
  pub name_for_number : unfit (shown.Name 0 (pos 0) ∷ shown.Bare 0 ∷ []) [] [] ≡ Some (path.Argument 0)
  pub number_for_address : unfit (shown.Num 0 ∷ shown.Num 0 ∷ []) [] [] ≡ Some (path.Argument 1)
  pub no_name : unfit (shown.Num 0 ∷ shown.Name 3 (pos 0) ∷ []) [] [] ≡ Some (path.ArgumentName 1)
  pub far_address : unfit (shown.Num 0 ∷ shown.Bare (2 ^ 64) ∷ []) [] [] ≡ Some (path.Argument 1)
  pub far_offset : unfit (shown.Num 0 ∷ shown.Name 0 (pos (2 ^ 63)) ∷ []) [] [] ≡ Some (path.ArgumentName 1)
  pub first : unfit (shown.Num 256 ∷ shown.Num 0 ∷ []) [] [] ≡ Some (path.Argument 0)
  pub before_blocks : unfit (shown.Num 0 ∷ shown.Num 0 ∷ []) (a_block bad_second ∷ []) [] ≡ Some (path.Argument 1)

pub record BytesFit : Type 0 where
  pub of_block : unfit good (a_block bad_second ∷ []) [] ≡ Some (path.BlockByte 0 1)
  pub of_second_block : unfit good (good_block ∷ a_block (part.Frag 5 (pos 0) 0 ∷ []) ∷ []) [] ≡ Some (path.BlockByte 1 0)
  pub no_byte : unfit good (a_block (part.Num 256 ∷ []) ∷ []) [] ≡ Some (path.BlockByte 0 0)
  pub before_externals : unfit good (a_block bad_second ∷ []) (for_global 9 [] ∷ []) ≡ Some (path.BlockByte 0 1)
  pub no_global : unfit good (good_block ∷ []) (for_global 9 [] ∷ []) ≡ Some (path.External 0)
  pub not_external : unfit good (good_block ∷ []) (for_global 0 (part.Num 0 ∷ part.Num 0 ∷ []) ∷ []) ≡ Some (path.External 0)
  pub other_size : unfit good (good_block ∷ []) (for_global 1 (part.Num 0 ∷ []) ∷ []) ≡ Some (path.External 0)
  pub of_external : unfit good (good_block ∷ []) (for_global 1 bad_second ∷ []) ≡ Some (path.ExternalByte 0 1)
  pub size_first : unfit good (good_block ∷ []) (for_global 1 (part.Frag 4 (pos 0) 0 ∷ []) ∷ []) ≡ Some (path.External 0)
  pub second_of_a_name : unfit good (good_block ∷ []) (for_global 1 (part.Num 0 ∷ part.Num 0 ∷ []) ∷ for_global 1 [] ∷ []) ≡ Some (path.External 1)

-- ---- starts

-- define void @0(i8 %1, i8* %2) { 3: ret void }
abbrev pub the_function : Function
the_function = plain_function Void (Number 0) the_params (block 3 [] RetVoid ∷ [])

abbrev pub the_module : Module
the_module = record (plain_module [] (the_function ∷ [])) { globals = the_globals }

abbrev pub given_good : Input
given_good = record the_input { args = good }

pub record StartsStand : Type 0 where
  pub at_first_block : start the_module (Number 0) given_good
      ≡ Some (Running (at_block the_function (block 3 [] RetVoid)
      (set (set no_registers (Number 1) (Some (kind.Int 8)) (value.Num 255)) (Number 2) (Some kind.Ptr) (value.Ptr 3 (pos 1))) []) [] the_world)
  pub no_function : start the_module (Number 1) given_good ≡ None
  pub unfit_input : start the_module (Number 0) (record given_good { args = [] }) ≡ None
