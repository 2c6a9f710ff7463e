-- What holds of everything that a step may do.
use Rattle.std.proofs.Common.{◌≡◌, ℕ, ℤ, Bool, true, false, List, [], ◌∷◌, Option, None, Some, refl, sym, subst}
use Rattle.ir_core.specs.declared.functions.Block.{Block}
use Rattle.ir_core.specs.declared.functions.Call.{Call}
use Rattle.ir_core.specs.declared.functions.Function.{Function}
use Rattle.ir_core.specs.declared.modules.Module.{Module}
use Rattle.ir_types.specs.declared.names.Name.{Name}
use Rattle.ir_core.specs.declared.values.Byte.{Byte}
use Rattle.ir_core.specs.declared.values.Byte.TheVariants as byte
use Rattle.ir_core.specs.declared.values.Value.{Value}
use Rattle.ir_core.specs.declared.values.Value.TheVariants as value
use Rattle.ir_core.specs.declared.values.Kind.{Kind}
use Rattle.ir_values.specs.Constants.{Scope}
use Rattle.ir_values.specs.declared.operations.Outcome.{Outcome}
use Rattle.ir_values.specs.declared.operations.Outcome.TheVariants.{Gives, Trap}
use Rattle.block_memory.specs.declared.items.Choice.TheVariants as choice
use Rattle.block_memory.specs.declared.items.Shown.{Shown}
use Rattle.block_memory.specs.declared.items.ShownByte.{ShownByte}
use Rattle.block_memory.specs.Memory.{Memory}
use Rattle.block_memory.specs.Names.{Names, Showing, name_of, shown_of}
use Rattle.ir_machine.specs.declared.items.Item.{Item}
use Rattle.ir_machine.specs.declared.items.Item.TheVariants.{Turn, Called, EnvRead, EnvWrite, EnvNew, Replied, Wrong}
use Rattle.ir_machine.specs.Registers.{no_registers, set}
use Rattle.ir_machine.specs.State.{Frame, Pending, World, State, Running, Waiting, Over, scope_of}
use Rattle.ir_machine.specs.Machine.{Asks, Does, Ask, Never, Chosen, Told, FreshByte, Made, Follows, act, arguments_of, at_block, begun, block_named, branch, byte_reached, call_step, called, chosen_by, entering, function_named, gone, gone_to, is_declared, jump, label_told, passed, picked_byte, read_byte, reply, resolve, resumed, set_to, show, show_all, show_byte, show_part, show_undef, shown_as, waiting_for, with_memory, with_phis, wrong}

-- whatever is chosen, the items shown and the state after are related so
abbrev pub AllDo : (List Item → State → Type 0) → Asks → Type 0
AllDo P (Does items after) = P items after
AllDo P (Ask fits next) = (c : Chosen) → fits c ≡ true → AllDo P (next c)
AllDo P Never = Unit {0}

pub all_do_made : (P : List Item → State → Type 0) (a : Asks) (made : Made) → AllDo P a → Follows a made → P made.items made.after
all_do_made P (Does items after) made h f = subst (λ (o : Made). P o.items o.after) (sym f) h
all_do_made P (Ask fits next) made h f =
    subst (λ (o : Made). P o.items o.after) (sym f.4) (all_do_made P (next f.0) f.1 (h f.0 f.2) f.3)
all_do_made P Never made h f = absurd f

-- What is shown may bind names, and changes nothing else.
pub all_do_shown : (P : List Item → State → Type 0) (o : Option Showing) (world : World) (next : Shown → World → Asks)
    → ((s : Shown) (names : Names) → AllDo P (next s (record world { names = names }))) → AllDo P (shown_as o world next)
all_do_shown P None world next h = tt
all_do_shown P (Some showing) world next h = h showing.0 showing.1

all_do_undef : (P : List Item → State → Type 0) (k : Option Kind) (world : World) (bad : Asks) (next : Shown → World → Asks)
    → AllDo P bad → ((s : Shown) (names : Names) → AllDo P (next s (record world { names = names }))) → AllDo P (show_undef k world bad next)
all_do_undef P None world bad next b h = b
all_do_undef P (Some k) world bad next b h = λ c e. all_do_shown P (chosen_by k world c) world next h

pub all_do_named : (P : List Item → State → Type 0) (k : Option Kind) (v : Value) (world : World) (bad : Asks) (next : Shown → World → Asks)
    → AllDo P bad → ((s : Shown) (names : Names) → AllDo P (next s (record world { names = names }))) → AllDo P (show k v world bad next)
all_do_named P k value.Poison world bad next b h = b
all_do_named P k value.Undef world bad next b h = all_do_undef P k world bad next b h
all_do_named P k (value.Num n) world bad next b h = all_do_shown P (shown_of world.names (value.Num n)) world next h
all_do_named P k (value.Ptr block offset) world bad next b h = all_do_shown P (shown_of world.names (value.Ptr block offset)) world next h
all_do_named P k (value.Bare address) world bad next b h = all_do_shown P (shown_of world.names (value.Bare address)) world next h

-- in whatever world
pub all_do_show : (P : List Item → State → Type 0) (k : Option Kind) (v : Value) (world : World) (bad : Asks) (next : Shown → World → Asks)
    → AllDo P bad → ((s : Shown) (after : World) → AllDo P (next s after)) → AllDo P (show k v world bad next)
all_do_show P k v world bad next b h = all_do_named P k v world bad next b (λ s names. h s (record world { names = names }))

-- arguments, one after the other
pub all_do_show_all : (P : List Item → State → Type 0) (vs : List (Option Kind × Value)) (world : World) (next : List Shown → World → Asks)
    → P (Wrong ∷ []) Over → ((ss : List Shown) (names : Names) → AllDo P (next ss (record world { names = names }))) → AllDo P (show_all vs world next)
all_do_show_all P [] world next bad h = h [] world.names
all_do_show_all P (v ∷ vs) world next bad h =
    all_do_named P v.0 v.1 world wrong _ bad (λ s names. all_do_show_all P vs (record world { names = names }) _ bad (λ ss last. h (s ∷ ss) last))

-- what follows a branch, wherever it goes
all_do_gone_to : (P : List Item → State → Type 0) (o : Option Name) (next : Name → Asks) → ((x : Name) → AllDo P (next x)) → AllDo P (gone_to o next)
all_do_gone_to P (Some x) next h = h x
all_do_gone_to P None next h = tt

all_do_gone : (P : List Item → State → Type 0) (c : Chosen) (next : Name → Asks) → ((x : Name) → AllDo P (next x)) → AllDo P (gone c next)
all_do_gone P c next h = all_do_gone_to P (label_told c) next h

pub all_do_branch : (P : List Item → State → Type 0) (v : Value) (label : ℕ → Name) (labels : List Name) (next : Name → Asks)
    → P (Wrong ∷ []) Over → ((x : Name) → AllDo P (next x)) → AllDo P (branch v label labels next)
all_do_branch P (value.Num n) label labels next bad h = h (label n)
all_do_branch P value.Undef label labels next bad h = λ c e. all_do_gone P c next h
all_do_branch P (value.Ptr block offset) label labels next bad h = λ c e. all_do_gone P c next h
all_do_branch P (value.Bare address) label labels next bad h = λ c e. all_do_gone P c next h
all_do_branch P value.Poison label labels next bad h = bad

-- what holds of undefined behaviour and of the block that is entered holds of a jump
module _ (P : List Item → State → Type 0) (scope : Scope) (frame : Frame) (rest : List Pending) (world : World) (to : Name) (bad : P (Wrong ∷ []) Over)
    (h : (b : Block) → block_named to frame.function.blocks ≡ Some b
    → P (Turn ∷ []) (Running (at_block frame.function b (with_phis scope frame.registers frame.block b.phis frame.registers) frame.own) rest world)) where
  all_do_entering : (o : Option Block) → block_named to frame.function.blocks ≡ o → AllDo P (entering scope frame rest world o)
  all_do_entering (Some b) named = h b named
  all_do_entering None named = bad

  pub all_do_jump : AllDo P (jump scope frame rest world to)
  all_do_jump = all_do_entering (block_named to frame.function.blocks) refl

pub all_do_set_to : (P : List Item → State → Type 0) (k : Option Kind) (x : Name) (o : Outcome) (frame : Frame) (rest : List Pending) (world : World)
    → ((v : Value) → o ≡ Gives v → P [] (Running (record frame { registers = set frame.registers x k v }) rest world))
    → P (Wrong ∷ []) Over → AllDo P (set_to k x o frame rest world)
all_do_set_to P k x (Gives v) frame rest world h b = h v refl
all_do_set_to P k x Trap frame rest world h b = b

pub all_do_stored : (P : List Item → State → Type 0) (o : Option Memory) (frame : Frame) (rest : List Pending) (world : World)
    → ((memory : Memory) → P [] (Running frame rest (record world { memory = memory }))) → P (Wrong ∷ []) Over → AllDo P (with_memory o frame rest world)
all_do_stored P (Some memory) frame rest world h b = h memory
all_do_stored P None frame rest world h b = b

-- What holds of undefined behaviour, of the first block of a callee that the module defines, and of a call for which the outside is waited for
-- holds of a call.
module _ (P : List Item → State → Type 0) (m : Module) (c : Call) (frame : Frame) (rest : List Pending) (world : World) (bad : P (Wrong ∷ []) Over)
    (enters : (g : Function) (b : Block) (bs : List Block) → function_named c.callee m.functions ≡ Some g → g.blocks ≡ b ∷ bs
    → P (Turn ∷ []) (Running (at_block g b (passed g.params (arguments_of (scope_of m) frame.registers c.arguments) no_registers) []) (waiting_for c frame ∷ rest) world))
    (waits : function_named c.callee m.functions ≡ None → is_declared c.callee m.declarations ≡ true → (ss : List Shown) (names : Names)
    → P (Called c.callee ss ∷ []) (Waiting (waiting_for c frame) rest (record world { names = names }))) where
  abbrev all_passed : List (Option Kind × Value)
  all_passed = arguments_of (scope_of m) frame.registers c.arguments

  all_do_begun : (g : Function) → function_named c.callee m.functions ≡ Some g → (bs : List Block) → g.blocks ≡ bs
      → AllDo P (begun g bs all_passed (waiting_for c frame ∷ rest) world)
  all_do_begun g named [] blocks = bad
  all_do_begun g named (b ∷ bs) blocks = enters g b bs named blocks

  all_do_called : (o : Option Function) → function_named c.callee m.functions ≡ o → (declared : Bool) → is_declared c.callee m.declarations ≡ declared
      → AllDo P (called o declared c.callee all_passed (waiting_for c frame) rest world)
  all_do_called (Some g) named declared is = all_do_begun g named g.blocks refl
  all_do_called None named true is = all_do_show_all P all_passed world _ bad (waits named is)
  all_do_called None named false is = bad

  pub all_do_call : AllDo P (call_step m c frame rest world)
  all_do_call = all_do_called (function_named c.callee m.functions) refl (is_declared c.callee m.declarations) refl

-- a byte that the outside reads
all_do_part : (P : List Item → State → Type 0) (name : Option ℕ) (block : ℕ) (offset : ℤ) (place : ℕ) (world : World) (next : ShownByte → World → Asks)
    → ((s : ShownByte) (after : World) → AllDo P (next s after)) → AllDo P (show_part name block offset place world next)
all_do_part P (Some x) block offset place world next h = h _ world
all_do_part P None block offset place world next h = h _ _

all_do_picked : (P : List Item → State → Type 0) (c : Chosen) (world : World) (next : ShownByte → World → Asks)
    → ((s : ShownByte) (after : World) → AllDo P (next s after)) → AllDo P (picked_byte c world next)
all_do_picked P (Told (choice.PickByte s)) world next h = h s world
all_do_picked P (FreshByte bound offset place) world next h = h _ _
all_do_picked P (Told c) world next h = tt

pub all_do_byte : (P : List Item → State → Type 0) (b : Byte) (world : World) (next : ShownByte → World → Asks)
    → (b ≡ byte.Poison → P (Wrong ∷ []) Over) → ((s : ShownByte) (after : World) → AllDo P (next s after)) → AllDo P (show_byte b world next)
all_do_byte P byte.Poison world next bad h = bad refl
all_do_byte P (byte.Num n) world next bad h = h _ world
all_do_byte P (byte.Frag block offset place) world next bad h = all_do_part P (name_of world.names block) block offset place world next h
all_do_byte P byte.Undef world next bad h = λ c e. all_do_picked P c world next h

-- what holds of undefined behaviour, of a reply, and of what the outside does while it goes on waiting holds of all its acts
module _ (P : List Item → State → Type 0) (p : Pending) (ps : List Pending) (world : World) (bad : P (Wrong ∷ []) Over)
    (replied : (s : Option Shown) (k : Option Kind) (v : Value) → P (Replied s ∷ []) (Running (resumed p k v) ps world))
    (reads : (x : ℕ) (offset : ℤ) (s : ShownByte) (after : World) → P (EnvRead x offset s ∷ []) (Waiting p ps after))
    (writes : (x : ℕ) (offset : ℤ) (s : ShownByte) (after : World) → P (EnvWrite x offset s ∷ []) (Waiting p ps after))
    (makes : (align : ℕ) (bytes : List ShownByte) (after : World) → P (EnvNew align bytes ∷ []) (Waiting p ps after)) where
  all_do_reply : (s : Option Shown) → AllDo P (reply s p ps world)
  all_do_reply None = replied None None value.Poison
  all_do_reply (Some s) = replied (Some s) p.kind (resolve world s)

  all_do_read : (x : ℕ) (offset : ℤ) (b : Option Byte)
      → AllDo P (read_byte b (λ b. show_byte b world (λ s after. Does (EnvRead x offset s ∷ []) (Waiting p ps after))))
  all_do_read x offset None = tt
  all_do_read x offset (Some b) = all_do_byte P b world _ (λ e. bad) (λ s after. reads x offset s after)

  pub all_do_act : (c : Chosen) → AllDo P (act c p ps world)
  all_do_act (Told (choice.Reply s)) = all_do_reply s
  all_do_act (Told choice.Wrong) = bad
  all_do_act (Told (choice.Read x offset)) = all_do_read x offset (byte_reached world x offset)
  all_do_act (Told (choice.Write x offset new)) = writes x offset new _
  all_do_act (Told (choice.New align bytes)) = makes align bytes _
  all_do_act c = tt
