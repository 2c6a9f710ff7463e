-- What the outside may do while a call waits, and what a return ends: an example of each case, worked out by hand from the LangRef.
use Rattle.std.specs.Prelude.{◌≡◌, ◌^◌, pos, negsuc, true, false, List, [], ◌∷◌, Option, None, Some}
use Rattle.ir_types.specs.declared.names.Name.TheVariants.{Number}
use Rattle.ir_core.specs.declared.functions.Term.TheVariants.{RetVoid}
use Rattle.ir_core.specs.declared.modules.Module.{Module}
use Rattle.ir_core.specs.declared.values.Byte.{Byte}
use Rattle.ir_core.specs.declared.values.Byte.TheVariants as byte
use Rattle.ir_core.specs.declared.values.Kind.{Kind}
use Rattle.ir_core.specs.declared.values.Kind.TheVariants as kind
use Rattle.ir_core.specs.declared.values.Value.{Value}
use Rattle.ir_core.specs.declared.values.Value.TheVariants as value
use Rattle.block_memory.specs.declared.items.Choice.{Choice}
use Rattle.block_memory.specs.declared.items.Choice.TheVariants.{Fresh, Go, New, Pick, PickByte, Read, Reply, Write}
use Rattle.block_memory.specs.declared.items.Choice.TheVariants as choice
use Rattle.block_memory.specs.declared.items.Shown.TheVariants as shown
use Rattle.block_memory.specs.declared.items.ShownByte.TheVariants as part
use Rattle.block_memory.specs.Memory.{Cell}
use Rattle.block_memory.specs.Names.{Names}
use Rattle.ir_machine.specs.declared.items.Item.{Item}
use Rattle.ir_machine.specs.declared.items.Item.TheVariants.{EnvNew, EnvRead, EnvWrite, Replied, Returned, Turn, Wrong}
use Rattle.ir_machine.specs.Choices.{Answer, Did, Lacks, answer}
use Rattle.ir_machine.specs.Machine.{Does, FreshByte, asks, is_byte_pick, return_step, term_step}
use Rattle.ir_machine.specs.Registers.{set}
use Rattle.ir_machine.specs.State.{Frame, Over, Pending, Running, Waiting, World, scope_of}

-- a block of four bytes: 7, undef, poison, and the third part of the pointer to byte 4 of block 1
abbrev pub four_bytes : Cell
four_bytes = record { align = 4; live = true; bytes = byte.Num 7 ∷ byte.Undef ∷ byte.Poison ∷ byte.Frag 1 (pos 4) 2 ∷ [] }

abbrev pub one_byte : Cell
one_byte = record { align = 1; live = true; bytes = byte.Num 0 ∷ [] }

-- these two blocks, known by these names
abbrev pub named : Names → World
named names = record { memory = four_bytes ∷ one_byte ∷ []; names = names }

-- name 0 is block 0's
abbrev pub known : World
known = named (Some 0 ∷ [])

-- and name 1 leads nowhere
abbrev pub loose : World
loose = named (Some 0 ∷ None ∷ [])

-- name 0 is block 1's, and name 1 block 0's
abbrev pub crossed : World
crossed = named (Some 1 ∷ Some 0 ∷ [])

-- the first where block 0 has ended
abbrev pub over : World
over = record known { memory = record four_bytes { live = false } ∷ one_byte ∷ [] }

-- %3 = call .. is waited for
abbrev pub for_three : Option Kind → Frame → Pending
for_three k frame = record { into = Some (Number 3); kind = k; frame = frame }

-- what is answered in that world to these choices, while a call of the kind waits
abbrev pub told : Module → Option Kind → Frame → World → List Choice → Answer
told m k frame world choices = answer (asks m (Waiting (for_three k frame) [] world)) choices

abbrev pub i8 : Option Kind
i8 = Some (kind.Int 8)

-- the call goes on to wait, in that world
abbrev pub waits : Item → Option Kind → Frame → World → Answer
waits item k frame world = Did (item ∷ []) (Waiting (for_three k frame) [] world) []

-- the call is answered, and its register holds the value
abbrev pub goes_on_with : Item → Option Kind → Frame → World → Value → Answer
goes_on_with item k frame world v = Did (item ∷ []) (Running (record frame { registers = set frame.registers (Number 3) k v }) [] world) []

abbrev pub lacking : Answer
lacking = Lacks []

pub record BytesAreRead (m : Module) (frame : Frame) : Type 0 where
  pub number : told m i8 frame known (Read 0 (pos 0) ∷ []) ≡ waits (EnvRead 0 (pos 0) (part.Num 7)) i8 frame known
  pub undef : told m i8 frame known (Read 0 (pos 1) ∷ PickByte (part.Num 9) ∷ []) ≡ waits (EnvRead 0 (pos 1) (part.Num 9)) i8 frame known
  pub undef_untold : told m i8 frame known (Read 0 (pos 1) ∷ []) ≡ lacking
  pub undef_as_no_byte : told m i8 frame known (Read 0 (pos 1) ∷ PickByte (part.Num 256) ∷ []) ≡ lacking
  pub undef_as_no_name : told m i8 frame known (Read 0 (pos 1) ∷ PickByte (part.Frag 1 (pos 0) 0) ∷ []) ≡ lacking
  pub undef_as_a_value : told m i8 frame known (Read 0 (pos 1) ∷ Pick (shown.Num 9) ∷ []) ≡ lacking
  pub poison : told m i8 frame known (Read 0 (pos 2) ∷ []) ≡ Did (Wrong ∷ []) Over []
  pub unnamed : told m i8 frame known (Read 0 (pos 3) ∷ [])
      ≡ waits (EnvRead 0 (pos 3) (part.Frag 1 (pos 4) 2)) i8 frame (named (Some 0 ∷ Some 1 ∷ []))
  pub already_named : told m i8 frame (named (Some 0 ∷ Some 1 ∷ [])) (Read 0 (pos 3) ∷ [])
      ≡ waits (EnvRead 0 (pos 3) (part.Frag 1 (pos 4) 2)) i8 frame (named (Some 0 ∷ Some 1 ∷ []))
  pub past_the_end : told m i8 frame known (Read 0 (pos 4) ∷ []) ≡ lacking
  pub before_it : told m i8 frame known (Read 0 (negsuc 0) ∷ []) ≡ lacking
  pub no_name : told m i8 frame known (Read 1 (pos 0) ∷ []) ≡ lacking
  pub leads_nowhere : told m i8 frame loose (Read 1 (pos 0) ∷ []) ≡ lacking
  pub ended : told m i8 frame over (Read 0 (pos 0) ∷ []) ≡ lacking

-- An undef byte may be a part of a pointer to the next name as well, bound to an unnamed block or to nothing.
pub record UndefBytesAreParts : Type 0 where
  pub unnamed : is_byte_pick known (FreshByte (Some 1) (pos 0) 0) ≡ true
  pub nothing : is_byte_pick known (FreshByte None (pos 0) 0) ≡ true
  pub has_a_name : is_byte_pick known (FreshByte (Some 0) (pos 0) 0) ≡ false
  pub no_block : is_byte_pick known (FreshByte (Some 2) (pos 0) 0) ≡ false

-- the first byte of block 0 is this
abbrev pub first_byte : Byte → World → World
first_byte b world = record world { memory = record four_bytes { bytes = b ∷ byte.Undef ∷ byte.Poison ∷ byte.Frag 1 (pos 4) 2 ∷ [] } ∷ one_byte ∷ [] }

pub record BytesAreWritten (m : Module) (frame : Frame) : Type 0 where
  pub number : told m i8 frame known (Write 0 (pos 0) (part.Num 5) ∷ []) ≡ waits (EnvWrite 0 (pos 0) (part.Num 5)) i8 frame (first_byte (byte.Num 5) known)
  pub a_part : told m i8 frame known (Write 0 (pos 0) (part.Frag 0 (pos 4) 1) ∷ [])
      ≡ waits (EnvWrite 0 (pos 0) (part.Frag 0 (pos 4) 1)) i8 frame (first_byte (byte.Frag 0 (pos 4) 1) known)
  pub by_name : told m i8 frame crossed (Write 1 (pos 0) (part.Frag 0 (pos 4) 1) ∷ [])
      ≡ waits (EnvWrite 1 (pos 0) (part.Frag 0 (pos 4) 1)) i8 frame (first_byte (byte.Frag 1 (pos 4) 1) crossed)
  pub of_nothing : told m i8 frame loose (Write 0 (pos 0) (part.Frag 1 (pos 4) 1) ∷ [])
      ≡ waits (EnvWrite 0 (pos 0) (part.Frag 1 (pos 4) 1)) i8 frame (first_byte byte.Undef loose)
  pub no_place : told m i8 frame known (Write 0 (pos 0) (part.Frag 0 (pos 4) 8) ∷ [])
      ≡ waits (EnvWrite 0 (pos 0) (part.Frag 0 (pos 4) 8)) i8 frame (first_byte (byte.Frag 0 (pos 4) 8) known)
  pub no_byte : told m i8 frame known (Write 0 (pos 0) (part.Num 256) ∷ []) ≡ lacking
  pub no_such_name : told m i8 frame known (Write 0 (pos 0) (part.Frag 1 (pos 4) 1) ∷ []) ≡ lacking
  pub past_the_end : told m i8 frame known (Write 0 (pos 4) (part.Num 5) ∷ []) ≡ lacking
  pub ended : told m i8 frame over (Write 0 (pos 0) (part.Num 5) ∷ []) ≡ lacking

pub record BlocksAreMade (m : Module) (frame : Frame) : Type 0 where
  pub block : told m i8 frame known (New 8 (part.Num 1 ∷ part.Frag 0 (pos 0) 0 ∷ []) ∷ [])
      ≡ waits (EnvNew 8 (part.Num 1 ∷ part.Frag 0 (pos 0) 0 ∷ [])) i8 frame
      (record {
        memory = four_bytes ∷ one_byte ∷ record { align = 8; live = true; bytes = byte.Num 1 ∷ byte.Frag 0 (pos 0) 0 ∷ [] } ∷ [];
        names = Some 0 ∷ Some 2 ∷ [];
      })
  -- an alignment that is no power of two, and none
  pub odd_alignment : told m i8 frame known (New 3 [] ∷ [])
      ≡ waits (EnvNew 3 []) i8 frame (record { memory = four_bytes ∷ one_byte ∷ record { align = 3; live = true; bytes = [] } ∷ []; names = Some 0 ∷ Some 2 ∷ [] })
  pub no_alignment : told m i8 frame known (New 0 [] ∷ [])
      ≡ waits (EnvNew 0 []) i8 frame (record { memory = four_bytes ∷ one_byte ∷ record { align = 0; live = true; bytes = [] } ∷ []; names = Some 0 ∷ Some 2 ∷ [] })
  pub its_own_name : told m i8 frame known (New 8 (part.Frag 1 (pos 0) 0 ∷ []) ∷ []) ≡ lacking

pub record CallsAreAnswered (m : Module) (frame : Frame) : Type 0 where
  pub number : told m i8 frame known (Reply (Some (shown.Num 255)) ∷ []) ≡ goes_on_with (Replied (Some (shown.Num 255))) i8 frame known (value.Num 255)
  pub too_wide : told m i8 frame known (Reply (Some (shown.Num 256)) ∷ []) ≡ lacking
  pub no_number : told m i8 frame known (Reply (Some (shown.Bare 1)) ∷ []) ≡ lacking
  pub nothing : told m i8 frame known (Reply None ∷ []) ≡ lacking
  pub name : told m (Some kind.Ptr) frame known (Reply (Some (shown.Name 0 (pos 4))) ∷ [])
      ≡ goes_on_with (Replied (Some (shown.Name 0 (pos 4)))) (Some kind.Ptr) frame known (value.Ptr 0 (pos 4))
  pub of_nothing : told m (Some kind.Ptr) frame loose (Reply (Some (shown.Name 1 (pos 4))) ∷ [])
      ≡ goes_on_with (Replied (Some (shown.Name 1 (pos 4)))) (Some kind.Ptr) frame loose value.Undef
  pub no_name : told m (Some kind.Ptr) frame known (Reply (Some (shown.Name 1 (pos 4))) ∷ []) ≡ lacking
  pub address : told m (Some kind.Ptr) frame known (Reply (Some (shown.Bare 16)) ∷ [])
      ≡ goes_on_with (Replied (Some (shown.Bare 16))) (Some kind.Ptr) frame known (value.Bare 16)
  pub no_address : told m (Some kind.Ptr) frame known (Reply (Some (shown.Bare (2 ^ 64))) ∷ []) ≡ lacking
  pub no_offset : told m (Some kind.Ptr) frame known (Reply (Some (shown.Name 0 (pos (2 ^ 63)))) ∷ []) ≡ lacking
  pub of_void : told m None frame known (Reply None ∷ []) ≡ Did (Replied None ∷ []) (Running (record frame { registers = set frame.registers (Number 3) None value.Poison }) [] known) []
  pub of_void_by_a_value : told m None frame known (Reply (Some (shown.Num 0)) ∷ []) ≡ lacking

-- Undefined behaviour of the outside, where it has a name that leads nowhere; and what it never does.
pub record TheOutsideMayGoWrong (m : Module) (frame : Frame) : Type 0 where
  pub loose : told m i8 frame loose (choice.Wrong ∷ []) ≡ Did (Wrong ∷ []) Over []
  pub not_loose : told m i8 frame known (choice.Wrong ∷ []) ≡ lacking
  pub label : told m i8 frame known (Go (Number 1) ∷ []) ≡ lacking
  pub pick : told m i8 frame known (Pick (shown.Num 1) ∷ []) ≡ lacking
  pub fresh : told m (Some kind.Ptr) frame known (Fresh None (pos 0) ∷ []) ≡ lacking
  pub silent : told m i8 frame known [] ≡ lacking

-- A frame that made block 0 returns: the block has ended, and all else of it stays. The address that the last frame returns takes the next name.
pub record ReturnsEndBlocks (m : Module) (frame : Frame) : Type 0 where
  pub inner : term_step (scope_of m) RetVoid (record frame { own = 0 ∷ [] }) (for_three None frame ∷ []) known
      ≡ Does (Turn ∷ []) (Running (record frame { registers = set frame.registers (Number 3) None value.Poison }) [] over)
  pub nothing_made : term_step (scope_of m) RetVoid (record frame { own = [] }) (for_three None frame ∷ []) known
      ≡ Does (Turn ∷ []) (Running (record frame { registers = set frame.registers (Number 3) None value.Poison }) [] known)
  pub by_name : return_step (Some kind.Ptr) (value.Ptr 0 (pos 4)) [] known ≡ Does (Turn ∷ Returned (Some (shown.Name 0 (pos 4))) ∷ []) Over
  pub by_the_next : return_step (Some kind.Ptr) (value.Ptr 1 (pos 4)) [] known ≡ Does (Turn ∷ Returned (Some (shown.Name 1 (pos 4))) ∷ []) Over
  pub bare : return_step (Some kind.Ptr) (value.Bare 0) [] known ≡ Does (Turn ∷ Returned (Some (shown.Bare 0)) ∷ []) Over

abbrev pub ActsAreThese : Type 0
ActsAreThese = (m : Module) (frame : Frame)
    → BytesAreRead m frame × BytesAreWritten m frame × BlocksAreMade m frame × CallsAreAnswered m frame × TheOutsideMayGoWrong m frame

abbrev pub ReturnsEndTheirBlocks : Type 0
ReturnsEndTheirBlocks = (m : Module) (frame : Frame) → ReturnsEndBlocks m frame
