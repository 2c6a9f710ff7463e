-- Words of private functions: the names of a function, as they are kept and as they are written.
use Rattle.std.specs.Prelude.{◌≡◌, ◌||◌, ◌++◌, ℕ, nat_lt, Bool, true, false, not, cond, List, [], ◌∷◌, map, Option, None, Some, is_some}
use Rattle.std.specs.HashMap.{get_by}
use Rattle.std.specs.Option.{option_copied, option_map, option_or}
use Rattle.ir_core.specs.declared.functions.Function.{Function}
use Rattle.ir_core.specs.declared.functions.Instr.{Instr}
use Rattle.ir_core.specs.declared.functions.Param.{Param}
use Rattle.ir_core.specs.declared.functions.Phi.{Phi}
use Rattle.ir_core.specs.NameIndexes.Among.{is_among}
use Rattle.ir_types.specs.declared.named.NamedTy.{NamedTy}
use Rattle.ir_types.specs.declared.names.Name.{Name}
use Rattle.ir_types.specs.declared.names.Name.TheVariants as name
use Rattle.ir_types.specs.declared.ty.Ty.{Ty}
use Rattle.ir_types.specs.Same.{same_name}
use Rattle.ir_typing.specs.ShapeKinds.Kept.{type_in}
use Rattle.module_grammar.specs.declared.flow.BlockText.{BlockText}
use Rattle.module_grammar.specs.declared.flow.BodyText.{BodyText}
use Rattle.module_grammar.specs.declared.flow.PhiText.{PhiText}
use Rattle.module_grammar.specs.declared.functions.ParamText.{ParamText}
use Rattle.module_grammar.specs.declared.lines.AttachedText.{AttachedText}
use Rattle.module_grammar.specs.declared.lines.CallBodyText.{CallBodyText}
use Rattle.module_grammar.specs.declared.lines.CallBodyText.TheVariants as call
use Rattle.module_grammar.specs.declared.lines.LineText.{LineText}
use Rattle.module_grammar.specs.declared.places.Placed.{Placed}
use Rattle.name_claims.specs.declared.claims.Fault.{Fault}
use Rattle.name_claims.specs.declared.claims.Reason.TheVariants as reason
use Rattle.named_modules.specs.Built.{name_due}
use Rattle.named_modules.specs.Faults.{Heads, Thing as Seen, Block', Register', Things, Written, at, block_written, counted_faults, defined, due_behind_written, line_written, number_faults, register_thing, thing_of, things_of, unless}
use Rattle.named_modules.specs.Functions.{told_of}
use Rattle.fault_walk.specs.Told.{noted}
use Rattle.fault_walk.specs.declared.names.Names.{Names}
use Rattle.fault_walk.specs.declared.names.Taken.{Taken}
use Rattle.fault_walk.specs.declared.names.Thing.{Thing}
use Rattle.fault_walk.specs.declared.names.Thing.TheVariants as thing
use Rattle.fault_walk.specs.declared.names.Walk.{Walk}

-- ---- what names are

abbrev pub thing_seen : Thing → Seen
thing_seen thing.Block = Block'
thing_seen (thing.Register t) = Register' (option_copied t)

abbrev pub register_seen : Option Ty → Seen
register_seen t = Register' t

-- a name that is kept as a block's is one, whatever else it is
abbrev pub seen_as : Bool → Option (Option Ty) → Option Seen
seen_as true t = Some Block'
seen_as false t = option_map register_seen t

-- what each name is, if it is there
abbrev pub Known : Type 0
Known = Name → Option Seen

abbrev pub none_known : Known
none_known x = None

-- as they are kept
unfoldable pub thing_by : Names → Known
thing_by names x = seen_as (is_among x names.labels) (type_in names.types x)

-- a name more, unless it is there
unfoldable pub with_thing : Known → Name × Seen → Known
with_thing known t x = option_or (known x) (cond (same_name t.0 x) (Some t.1) None)

abbrev pub with_things : Known → Things → Known
with_things known [] = known
with_things known (t ∷ ts) = with_things (with_thing known t) ts

abbrev pub param_thing : Param → Name × Seen
param_thing p = (p.name, Register' (Some p.ty))

abbrev pub phi_thing : Phi → Name × Seen
phi_thing p = (p.name, Register' (Some p.ty))

abbrev pub line_things : List NamedTy → Instr → Things
line_things types line = map register_thing (told_of types line)

-- what lines of a function are judged beside: the heads of the module, and the names of the function
pub record Place : Type 0 where
  pub heads : Heads
  pub things : Things

abbrev pub place_of : Heads → Function → Place
place_of h f = record { heads = h; things = things_of h.types f }

-- each name is kept as the first of it
abbrev pub IsKept : Names → Things → Type 0
IsKept names things = (x : Name) → thing_by names x ≡ thing_of things x

-- ---- names that are taken

abbrev pub is_counted : ℕ → Name → Bool
is_counted k (name.Text bytes) = false
is_counted k (name.Number n) = nat_lt n k

-- in order, or apart
unfoldable pub is_taken : Taken → Name → Bool
is_taken taken x = is_counted taken.counted x || is_some (get_by (same_name x) taken.names)

abbrev pub none_taken : Name → Bool
none_taken x = false

-- a name more
unfoldable pub also : (Name → Bool) → Name → Name → Bool
also taken x y = same_name y x || taken y

-- ---- what is written

-- the names that are taken, the number that is due, and the first fault
pub record Counted : Type 0 where
  pub taken : Name → Bool
  pub due : ℕ
  pub fault : Option Fault

abbrev pub counted_in : Walk → Counted
counted_in walk = record { taken = is_taken walk.taken; due = walk.due; fault = walk.told.fault }

abbrev pub none_counted : Counted
none_counted = record { taken = none_taken; due = 0; fault = None }

abbrev pub name_told : Bool → ℕ → Placed Name → List Fault
name_told is_taken due x = unless (not is_taken) (at x reason.Twice) ++ number_faults due x x.what

abbrev pub unwritten_told : Bool → Placed Name → List Fault
unwritten_told is_taken x = unless (not is_taken) (at x reason.Twice) ++ (at x reason.WrongType ∷ [])

abbrev pub own_told : Placed Name → (Name → Bool) → ℕ → Option (Placed Name) → Bool → List Fault
own_told whole taken due None defines = cond defines (counted_faults whole due) []
own_told whole taken due (Some x) defines = cond defines (name_told (taken x.what) due x) (unwritten_told (taken x.what) x)

abbrev pub taken_with : (Name → Bool) → ℕ → Written → Name → Bool
taken_with taken due w = cond w.defines (also taken (name_due due w.name)) taken

unfoldable pub with_written : Placed Name → Counted → Written → Counted
with_written whole s w = record {
  taken = taken_with s.taken s.due w;
  due = due_behind_written s.due w;
  fault = noted (own_told whole s.taken s.due w.name w.defines) s.fault;
}

abbrev pub with_all : Placed Name → Counted → List Written → Counted
with_all whole s [] = s
with_all whole s (w ∷ ws) = with_all whole (with_written whole s w) ws

abbrev pub params_written : List ParamText → List Written
params_written = map (λ (p : ParamText). defined p.name)

abbrev pub phis_written : List PhiText → List Written
phis_written = map (λ (p : PhiText). defined p.register)

abbrev pub lines_written : List LineText → List Written
lines_written = map line_written

abbrev pub body_written : BodyText → List Written
body_written b = phis_written b.phis ++ lines_written b.lines

abbrev pub with_blocks : Placed Name → Counted → List BlockText → Counted
with_blocks whole s [] = s
with_blocks whole s (b ∷ bs) = with_blocks whole (with_all whole s (block_written b)) bs

-- a line behind its register
abbrev pub written_behind : Option (Placed Name) → AttachedText → Written
written_behind register w = line_written (record { register = register; attached = w })

-- of a line without result
abbrev pub undefined : Option (Placed Name) → Written
undefined x = record { name = x; defines = false }

-- a call sets its result, but for `void`
abbrev pub call_sets : CallBodyText → Bool
call_sets (call.Convention attributes c end) = is_some c.result
call_sets (call.Attributes first others c end) = is_some c.result
call_sets (call.Typed t called x end) = true
call_sets (call.Void v) = false
