-- The machine. A step is one body line, or one terminator with all phis of the block that it enters. It is told as a tree of
-- choices: from it are read which steps a run may make, and what a step needs to be chosen.
use Rattle.std.specs.Prelude.{◌≡◌, ◌⊎◌, ◌-◌, ◌*◌, ◌^◌, ℕ, zero, suc, ℤ, pos, negsuc, int_le, int_lt, Bool, true, false, ◌&&◌, not, cond, nat_eq, nat_lt, List, [], ◌∷◌, ◌++◌, length, map, slice_get, Option, None, Some, find}
use Rattle.std.specs.List.{list_all, list_any}
use Rattle.std.specs.Option.{is_some, option_and_then}
use Rattle.ir_types.specs.declared.names.Name.{Name}
use Rattle.ir_types.specs.declared.ty.Ty.{Ty}
use Rattle.ir_core.specs.declared.values.Value.{Value}
use Rattle.ir_core.specs.declared.values.Value.TheVariants as value
use Rattle.ir_core.specs.declared.values.Byte.{Byte}
use Rattle.ir_core.specs.declared.values.Byte.TheVariants as byte
use Rattle.ir_core.specs.declared.values.Kind.{Kind}
use Rattle.ir_core.specs.declared.functions.Alloca.{Alloca}
use Rattle.ir_core.specs.declared.functions.Argument.{Argument}
use Rattle.ir_core.specs.declared.functions.Call.{Call}
use Rattle.ir_core.specs.declared.functions.Instr.{Instr}
use Rattle.ir_core.specs.declared.functions.Instr.TheVariants as line
use Rattle.ir_core.specs.declared.functions.Store.{Store}
use Rattle.ir_core.specs.declared.functions.Term.{Term}
use Rattle.ir_core.specs.declared.functions.Term.TheVariants.{Ret, RetVoid, Br, CondBr, Switch, Unreachable}
use Rattle.ir_core.specs.declared.functions.Case.{Case}
use Rattle.ir_core.specs.declared.functions.Entry.{Entry}
use Rattle.ir_core.specs.declared.functions.Param.{Param}
use Rattle.ir_core.specs.declared.functions.Phi.{Phi}
use Rattle.ir_core.specs.declared.functions.Block.{Block}
use Rattle.ir_core.specs.declared.functions.Function.{Function}
use Rattle.ir_core.specs.declared.modules.Declaration.{Declaration}
use Rattle.ir_core.specs.declared.modules.Module.{Module}
use Rattle.ir_core.specs.declared.values.Kind.TheVariants as kind
use Rattle.ir_types.specs.Named.{size_of}
use Rattle.ir_types.specs.Same.{same_name}
use Rattle.ir_core.specs.Expressions.{type_of}
use Rattle.ir_values.specs.declared.operations.Outcome.{Outcome}
use Rattle.ir_values.specs.declared.operations.Outcome.TheVariants.{Gives, Trap}
use Rattle.ir_values.specs.Constants.{Scope}
use Rattle.block_memory.specs.declared.items.Choice.{Choice}
use Rattle.block_memory.specs.declared.items.Choice.TheVariants as choice
use Rattle.block_memory.specs.declared.items.Shown.{Shown}
use Rattle.block_memory.specs.declared.items.Shown.TheVariants as shown
use Rattle.block_memory.specs.declared.items.ShownByte.{ShownByte}
use Rattle.block_memory.specs.declared.items.ShownByte.TheVariants as part
use Rattle.block_memory.specs.Memory.{Cell, Memory, cell_at, ended, new_cell, stored_of, updated, with_bytes}
use Rattle.block_memory.specs.Names.{Names, Showing, chosen, is_unnamed, name_of, picked, resolved, shown_of}
use Rattle.ir_machine.specs.declared.items.Item.{Item}
use Rattle.ir_machine.specs.declared.items.Item.TheVariants.{Turn, Called, EnvRead, EnvWrite, EnvNew, Replied, Returned, Wrong}
use Rattle.ir_core.specs.Functions.{successors_of}
use Rattle.ir_core.specs.Types.{kind_of, number_at}
use Rattle.ir_machine.specs.Registers.{Registers, no_registers, held_at, holding, read, set, align_or, atom_value, operand_value, outcome}
use Rattle.ir_machine.specs.State.{Frame, Pending, World, scope_of, State, Running, Waiting, Over}

-- What a tree is told where it asks: a choice; or, of an undef byte that the outside reads, that it is this part of a pointer to the next
-- name, which is bound to this block or to nothing. No choice says that.
pub data Chosen : Type 0 where
  Told : Choice → Chosen
  FreshByte : Option ℕ → ℤ → ℕ → Chosen

-- What a step does: it shows items and leads to a state; or it asks for a choice that fits, and goes on with it; or there is
-- no step.
pub data Asks : Type 0 where
  Does : List Item → State → Asks
  Ask : (Chosen → Bool) → (Chosen → Asks) → Asks
  Never : Asks

-- undefined behaviour: it is shown, and the run is over
abbrev pub wrong : Asks
wrong = Does (Wrong ∷ []) Over

-- ---- showing

-- what follows takes what is shown, and the world after it, in which more names may be bound
abbrev pub shown_as : Option Showing → World → (Shown → World → Asks) → Asks
shown_as None world next = Never
shown_as (Some showing) world next = next showing.0 (record world { names = showing.1 })

-- what undef of a kind is shown as by what is chosen, if it fits
abbrev pub chosen_by : Kind → World → Chosen → Option Showing
chosen_by k world (Told c) = chosen k world.memory world.names c
chosen_by k world (FreshByte bound offset place) = None

-- undef is shown as whatever of its kind is chosen
abbrev pub show_undef : Option Kind → World → Asks → (Shown → World → Asks) → Asks
show_undef None world poison next = poison
show_undef (Some k) world poison next = Ask (λ c. is_some (chosen_by k world c)) (λ c. shown_as (chosen_by k world c) world next)

-- A value is shown to the outside: a number and an address of no block as what they are, an address in a block by a name. Showing poison is
-- undefined behaviour.
abbrev pub show : Option Kind → Value → World → Asks → (Shown → World → Asks) → Asks
show k value.Poison world poison next = poison
show k value.Undef world poison next = show_undef k world poison next
show k (value.Num n) world poison next = shown_as (shown_of world.names (value.Num n)) world next
show k (value.Ptr block offset) world poison next = shown_as (shown_of world.names (value.Ptr block offset)) world next
show k (value.Bare address) world poison next = shown_as (shown_of world.names (value.Bare address)) world next

-- ---- lines

-- a line sets its register to its outcome; a trap is undefined behaviour
abbrev pub set_to : Option Kind → Name → Outcome → Frame → List Pending → World → Asks
set_to k x (Gives v) frame rest world = Does [] (Running (record frame { registers = set frame.registers x k v }) rest world)
set_to k x Trap frame rest world = wrong

-- so many of a type are made: one, where no count is stated
abbrev pub count_made : Option (Ty × ℕ) → ℕ
count_made None = 1
count_made (Some c) = number_at c.0 c.1

-- An alloca makes a block of undef bytes, of the size of what it is of, so often, at its alignment, or its type's. Its register holds the
-- address of the first byte. The block is the frame's own: it ends when that returns.
abbrev pub made_block : Scope → Alloca → Frame → List Pending → World → Asks
made_block scope a frame rest world =
    let b = length world.memory in
    Does [] (Running
    (record frame { registers = set frame.registers a.name (Some kind.Ptr) (value.Ptr b (pos 0)); own = frame.own ++ b ∷ [] }) rest
    (record world { memory = world.memory ++ new_cell (size_of scope.types a.of * count_made a.count) (align_or scope.types a.of a.align) [] ∷ [] }))

-- a store changes memory; one that isn't allowed is undefined behaviour
abbrev pub with_memory : Option Memory → Frame → List Pending → World → Asks
with_memory None frame rest world = wrong
with_memory (Some memory) frame rest world = Does [] (Running frame rest (record world { memory = memory }))

abbrev pub stored_by : Scope → Store → Registers → Memory → Option Memory
stored_by scope s registers memory =
    let value = operand_value scope (read registers) in
    stored_of memory (kind_of s.value.ty) (value s.value) (value s.pointer) (align_or scope.types s.value.ty s.align)

-- ---- calls

-- a value of a kind as it is read at another: poison where the two differ, or there is none to read it at
abbrev pub at_kind : Option Kind → Option Kind → Value → Value
at_kind None k v = value.Poison
at_kind (Some j) k v = held_at j (holding k v)

-- the start of a block
abbrev pub at_block : Function → Block → Registers → List ℕ → Frame
at_block f b registers own = record { function = f; block = b.name; lines = b.body; term = b.term; registers = registers; own = own }

-- the first definition of that name
abbrev pub function_named : Name → List Function → Option Function
function_named x fs = find (λ f. same_name f.name x) fs

-- the module declares a function of that name
abbrev pub is_declared : Name → List Declaration → Bool
is_declared x ds = list_any (λ d. same_name d.name x) ds

-- what is passed: values, each with the kind of its type
abbrev pub arguments_of : Scope → Registers → List Argument → List (Option Kind × Value)
arguments_of scope registers args = map (λ a. (kind_of a.operand.ty, operand_value scope (read registers) a.operand)) args

-- Each parameter holds what is passed for it, read at its own kind. One for which nothing is passed isn't set.
abbrev pub passed : List Param → List (Option Kind × Value) → Registers → Registers
passed [] vs registers = registers
passed (p ∷ ps) [] registers = registers
passed (p ∷ ps) (v ∷ vs) registers = passed ps vs (set registers p.name (kind_of p.ty) (at_kind (kind_of p.ty) v.0 v.1))

-- The callee stands at the start of its first block, and its caller waits. A function without a block is none that can be called.
abbrev pub begun : Function → List Block → List (Option Kind × Value) → List Pending → World → Asks
begun g [] vs waiting world = wrong
begun g (b ∷ bs) vs waiting world = Does (Turn ∷ []) (Running (at_block g b (passed g.params vs no_registers) []) waiting world)

-- Arguments are shown from the left, each in the world after those before it. The first poison is undefined behaviour.
abbrev pub show_all : List (Option Kind × Value) → World → (List Shown → World → Asks) → Asks
show_all [] world next = next [] world
show_all (v ∷ vs) world next = show v.0 v.1 world wrong (λ s after. show_all vs after (λ ss last. next (s ∷ ss) last))

-- the outside is called by its name, with what is shown, and the caller waits
abbrev pub called_outside : Name → List (Option Kind × Value) → Pending → List Pending → World → Asks
called_outside x vs p rest world = show_all vs world (λ ss after. Does (Called x ss ∷ []) (Waiting p rest after))

-- The first function of that name that the module defines is entered. One that it only declares is of the outside; what it doesn't name at
-- all can't be called.
abbrev pub called : Option Function → Bool → Name → List (Option Kind × Value) → Pending → List Pending → World → Asks
called (Some g) declared x vs p rest world = begun g g.blocks vs (p ∷ rest) world
called None true x vs p rest world = called_outside x vs p rest world
called None false x vs p rest world = wrong

-- the frame, which stands behind the call, waits for it
abbrev pub waiting_for : Call → Frame → Pending
waiting_for c frame = record { into = c.name; kind = kind_of c.result; frame = frame }

abbrev pub call_step : Module → Call → Frame → List Pending → World → Asks
call_step m c frame rest world =
    called (function_named c.callee m.functions) (is_declared c.callee m.declarations) c.callee
    (arguments_of (scope_of m) frame.registers c.arguments) (waiting_for c frame) rest world

-- the frame stands after the line
abbrev pub line_step : Module → Instr → Frame → List Pending → World → Asks
line_step m (line.Calm l) frame rest world =
    set_to (kind_of (type_of l.right)) l.name (outcome (scope_of m) (read frame.registers) world.memory l.right) frame rest world
line_step m (line.Alloca a) frame rest world = made_block (scope_of m) a frame rest world
line_step m (line.Store s) frame rest world = with_memory (stored_by (scope_of m) s frame.registers world.memory) frame rest world
line_step m (line.Call c) frame rest world = call_step m c frame rest world

-- ---- returns

-- the register that is named is set, at the call's kind; after a call of no kind it isn't set
abbrev pub set_into : Registers → Option Name → Option Kind → Option Kind → Value → Registers
set_into registers None own k v = registers
set_into registers (Some x) own k v = set registers x own (at_kind own k v)

-- a call that waits gets its result
abbrev pub resumed : Pending → Option Kind → Value → Frame
resumed p k v = record p.frame { registers = set_into p.frame.registers p.into p.kind k v }

-- these blocks have ended
abbrev pub all_ended : List ℕ → Memory → Memory
all_ended [] memory = memory
all_ended (b ∷ bs) memory = all_ended bs (updated ended memory b)

abbrev pub without_own : List ℕ → World → World
without_own own world = record world { memory = all_ended own world.memory }

-- The last frame's value is the result of the run: the turn and then the value, or undefined behaviour for poison.
abbrev pub return_step : Option Kind → Value → List Pending → World → Asks
return_step k v [] world = show k v world (Does (Turn ∷ Wrong ∷ []) Over) (λ s after. Does (Turn ∷ Returned (Some s) ∷ []) Over)
return_step k v (p ∷ ps) world = Does (Turn ∷ []) (Running (resumed p k v) ps world)

-- The same of a return of nothing: the run has no result, and a call that waits gets none.
abbrev pub return_void : List Pending → World → Asks
return_void [] world = Does (Turn ∷ Returned None ∷ []) Over
return_void (p ∷ ps) world = Does (Turn ∷ []) (Running (resumed p None value.Poison) ps world)

-- ---- jumps

-- the first block of that name
abbrev pub block_named : Name → List Block → Option Block
block_named x bs = find (λ b. same_name b.name x) bs

-- the first entry for that block
abbrev pub entry_from : Name → List Entry → Option Entry
entry_from x es = find (λ e. same_name e.from x) es

abbrev pub entry_value : Scope → Registers → Ty → Option Entry → Value
entry_value scope old t None = value.Poison
entry_value scope old t (Some e) = atom_value scope (read old) t e.value

-- What a phi gives on the edge from that block, over the registers before it: poison, where it has no entry for the block. In a
-- well-formed module it has one.
abbrev pub phi_value : Scope → Registers → Name → Phi → Value
phi_value scope old from p = entry_value scope old p.ty (entry_from from p.entries)

-- all phis at once: each reads the registers before the edge
abbrev pub with_phis : Scope → Registers → Name → List Phi → Registers → Registers
with_phis scope old from [] registers = registers
with_phis scope old from (p ∷ ps) registers = with_phis scope old from ps (set registers p.name (kind_of p.ty) (phi_value scope old from p))

-- The turn is shown, and the run stands at the start of the block, behind its phis. Where there is no block, it is undefined behaviour.
abbrev pub entering : Scope → Frame → List Pending → World → Option Block → Asks
entering scope frame rest world (Some b) =
    Does (Turn ∷ []) (Running (at_block frame.function b (with_phis scope frame.registers frame.block b.phis frame.registers) frame.own) rest world)
entering scope frame rest world None = wrong

-- The frame goes on in the block of that name, with its phis set. Where there is no such block, it is undefined behaviour.
abbrev pub jump : Scope → Frame → List Pending → World → Name → Asks
jump scope frame rest world to = entering scope frame rest world (block_named to frame.function.blocks)

-- the label that is told
abbrev pub label_told : Chosen → Option Name
label_told (Told (choice.Go x)) = Some x
label_told c = None

-- one of the labels is told
abbrev pub is_among : List Name → Option Name → Bool
is_among labels None = false
is_among labels (Some x) = list_any (same_name x) labels

abbrev pub is_label : List Name → Chosen → Bool
is_label labels c = is_among labels (label_told c)

abbrev pub gone_to : Option Name → (Name → Asks) → Asks
gone_to None next = Never
gone_to (Some x) next = next x

abbrev pub gone : Chosen → (Name → Asks) → Asks
gone c next = gone_to (label_told c) next

-- A number leads to its label, and undef to whichever of the labels is told; an address counts as undef. A branch on poison is undefined
-- behaviour.
abbrev pub branch : Value → (ℕ → Name) → List Name → (Name → Asks) → Asks
branch (value.Num n) label labels next = next (label n)
branch value.Undef label labels next = Ask (is_label labels) (λ c. gone c next)
branch (value.Ptr block offset) label labels next = Ask (is_label labels) (λ c. gone c next)
branch (value.Bare address) label labels next = Ask (is_label labels) (λ c. gone c next)
branch value.Poison label labels next = wrong

-- 1 is true
abbrev pub side_of : Name → Name → ℕ → Name
side_of on_true on_false n = cond (nat_eq n 1) on_true on_false

-- the label of the first case that is this number at the type, else the default
abbrev pub case_of : Ty → Name → List Case → ℕ → Name
case_of t default [] n = default
case_of t default (c ∷ cs) n = cond (nat_eq (number_at t c.number) n) c.label (case_of t default cs n)

abbrev pub term_step : Scope → Term → Frame → List Pending → World → Asks
term_step scope (Ret o) frame rest world =
    return_step (kind_of o.ty) (operand_value scope (read frame.registers) o) rest (without_own frame.own world)
term_step scope RetVoid frame rest world = return_void rest (without_own frame.own world)
term_step scope (Br label) frame rest world = jump scope frame rest world label
term_step scope (CondBr c) frame rest world =
    branch (operand_value scope (read frame.registers) c.condition) (side_of c.on_true c.on_false) (successors_of (CondBr c))
    (jump scope frame rest world)
term_step scope (Switch s) frame rest world =
    branch (operand_value scope (read frame.registers) s.value) (case_of s.value.ty s.default s.cases) (successors_of (Switch s))
    (jump scope frame rest world)
term_step scope Unreachable frame rest world = wrong

-- ---- the outside, while a call waits

-- a signed number of 64 bits
abbrev pub is_offset : ℤ → Bool
is_offset z = int_le (negsuc (2 ^ 63 - 1)) z && int_lt z (pos (2 ^ 63))

-- the offset of an address that the outside gives is one of 64 bits, and so is its address of no block
abbrev pub is_ranged : Shown → Bool
is_ranged (shown.Num n) = true
is_ranged (shown.Name x offset) = is_offset offset
is_ranged (shown.Bare address) = nat_lt address (2 ^ 64)

-- a value of that kind that the outside may give: a number, an address of no block, or a name that there is
abbrev pub is_value_of : Kind → World → Shown → Bool
is_value_of k world s = is_ranged s && is_some (picked k world.names s)

-- the value that it gives: a name bound to nothing is undef
abbrev pub resolve : World → Shown → Value
resolve world (shown.Num n) = value.Num n
resolve world (shown.Name x offset) = resolved world.names x offset
resolve world (shown.Bare address) = value.Bare address

-- a call is answered by a value of its kind, and by nothing where it has none
abbrev pub is_reply : Option Kind → World → Option Shown → Bool
is_reply None world None = true
is_reply None world (Some s) = false
is_reply (Some k) world None = false
is_reply (Some k) world (Some s) = is_value_of k world s

abbrev pub is_byte_of : World → ShownByte → Bool
is_byte_of world (part.Num n) = nat_lt n 256
is_byte_of world (part.Frag x offset place) = is_offset offset && nat_lt x (length world.names)

-- the byte that is given: a part of a pointer to a name that is bound to nothing is undef
abbrev pub part_given : Value → ℕ → Byte
part_given (value.Ptr block offset) place = byte.Frag block offset place
part_given v place = byte.Undef

abbrev pub given_byte : World → ShownByte → Byte
given_byte world (part.Num n) = byte.Num n
given_byte world (part.Frag x offset place) = part_given (resolved world.names x offset) place

-- a part of a pointer is shown by its block's name, or by the next where it has none
abbrev pub show_part : Option ℕ → ℕ → ℤ → ℕ → World → (ShownByte → World → Asks) → Asks
show_part (Some x) block offset place world next = next (part.Frag x offset place) world
show_part None block offset place world next =
    next (part.Frag (length world.names) offset place) (record world { names = world.names ++ Some block ∷ [] })

-- the next name may be bound to a block that has none, or to nothing
abbrev pub may_bind : World → Option ℕ → Bool
may_bind world None = true
may_bind world (Some b) = is_unnamed world.memory world.names b

-- what an undef byte may be shown as: any byte, or a part of a pointer to the next name
abbrev pub is_byte_pick : World → Chosen → Bool
is_byte_pick world (Told (choice.PickByte s)) = is_byte_of world s
is_byte_pick world (FreshByte bound offset place) = may_bind world bound
is_byte_pick world (Told c) = false

abbrev pub picked_byte : Chosen → World → (ShownByte → World → Asks) → Asks
picked_byte (Told (choice.PickByte s)) world next = next s world
picked_byte (FreshByte bound offset place) world next =
    next (part.Frag (length world.names) offset place) (record world { names = world.names ++ bound ∷ [] })
picked_byte (Told c) world next = Never

-- a byte that the outside reads; reading poison is undefined behaviour
abbrev pub show_byte : Byte → World → (ShownByte → World → Asks) → Asks
show_byte byte.Poison world next = wrong
show_byte (byte.Num n) world next = next (part.Num n) world
show_byte (byte.Frag block offset place) world next = show_part (name_of world.names block) block offset place world next
show_byte byte.Undef world next = Ask (is_byte_pick world) (λ c. picked_byte c world next)

abbrev pub block_of : Option (Option ℕ) → Option ℕ
block_of None = None
block_of (Some bound) = bound

-- the byte of a live block at an offset
abbrev pub byte_in : Option Cell → ℤ → Option Byte
byte_in None offset = None
byte_in (Some c) (pos o) = cond c.live (slice_get c.bytes o) None
byte_in (Some c) (negsuc o) = None

-- the byte that the outside reaches by a name and an offset
abbrev pub byte_reached : World → ℕ → ℤ → Option Byte
byte_reached world x offset = byte_in (option_and_then (cell_at world.memory) (block_of (slice_get world.names x))) offset

abbrev pub written : Option ℕ → ℤ → Byte → Memory → Memory
written (Some b) (pos o) new memory = updated (with_bytes o (new ∷ [])) memory b
written None offset new memory = memory
written (Some b) (negsuc o) new memory = memory

-- a block that the outside makes, under the next name
abbrev pub with_named : ℕ → List ShownByte → World → World
with_named align bytes world = record {
  memory = world.memory ++ record { align = align; live = true; bytes = map (given_byte world) bytes } ∷ [];
  names = world.names ++ Some (length world.memory) ∷ [];
}

-- some name is bound to nothing
abbrev pub is_loose : Names → Bool
is_loose names = list_any (λ bound. not (is_some bound)) names

-- What the outside may do: answer the call, read or write a byte of a block that it has a name for, make a block; or, where it was shown an
-- address that undef was taken for and that leads nowhere, what is undefined behaviour.
abbrev pub is_act : Pending → World → Chosen → Bool
is_act p world (Told choice.Wrong) = is_loose world.names
is_act p world (Told (choice.Reply s)) = is_reply p.kind world s
is_act p world (Told (choice.Read x offset)) = is_some (byte_reached world x offset)
is_act p world (Told (choice.Write x offset new)) = is_some (byte_reached world x offset) && is_byte_of world new
is_act p world (Told (choice.New align bytes)) = list_all (is_byte_of world) bytes
is_act p world c = false

abbrev pub reply : Option Shown → Pending → List Pending → World → Asks
reply None p ps world = Does (Replied None ∷ []) (Running (resumed p None value.Poison) ps world)
reply (Some s) p ps world = Does (Replied (Some s) ∷ []) (Running (resumed p p.kind (resolve world s)) ps world)

abbrev pub read_byte : Option Byte → (Byte → Asks) → Asks
read_byte None next = Never
read_byte (Some b) next = next b

abbrev pub act : Chosen → Pending → List Pending → World → Asks
act (Told (choice.Reply s)) p ps world = reply s p ps world
act (Told choice.Wrong) p ps world = wrong
act (Told (choice.Read x offset)) p ps world =
    read_byte (byte_reached world x offset) (λ b. show_byte b world (λ s after. Does (EnvRead x offset s ∷ []) (Waiting p ps after)))
act (Told (choice.Write x offset new)) p ps world =
    Does (EnvWrite x offset new ∷ [])
    (Waiting p ps (record world { memory = written (block_of (slice_get world.names x)) offset (given_byte world new) world.memory }))
act (Told (choice.New align bytes)) p ps world = Does (EnvNew align bytes ∷ []) (Waiting p ps (with_named align bytes world))
act c p ps world = Never

-- ---- steps

abbrev pub frame_step : Module → List Instr → Frame → List Pending → World → Asks
frame_step m (i ∷ left) frame rest world = line_step m i (record frame { lines = left }) rest world
frame_step m [] frame rest world = term_step (scope_of m) frame.term frame rest world

-- THE step
abbrev pub asks : Module → State → Asks
asks m (Running frame rest world) = frame_step m frame.lines frame rest world
asks m (Waiting p ps world) = Ask (is_act p world) (λ c. act c p ps world)
asks m Over = Never

-- a step that was made: the choices told, the items shown, and the state after it
pub record Made : Type 0 where
  pub told : List Chosen
  pub items : List Item
  pub after : State

-- the step is one that the tree allows
abbrev pub Follows : Asks → Made → Type 0
Follows (Does items after) made = made ≡ record { told = []; items = items; after = after }
Follows (Ask fits next) made = (c : Chosen) × (more : Made) × (fits c ≡ true) × Follows (next c) more
    × (made ≡ record { told = c ∷ more.told; items = more.items; after = more.after })
Follows Never made = ⊥

-- Some run of at most n steps from the state shows exactly these items. It need not have ended.
abbrev pub ShowsFrom : Module → ℕ → State → List Item → Type 0
ShowsFrom m zero s items = items ≡ []
ShowsFrom m (suc n) s items = (items ≡ []) ⊎ ((made : Made) × (rest : List Item) × Follows (asks m s) made
    × (items ≡ made.items ++ rest) × ShowsFrom m n made.after rest)
