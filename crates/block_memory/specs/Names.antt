-- Names, by which the outside knows blocks, and what is shown under them.
use Rattle.std.specs.Prelude.{◌≡◌, ℕ, ℤ, suc, Bool, false, ◌&&◌, not, cond, nat_eq, nat_lt, List, [], ◌∷◌, ◌++◌, length, slice_get, Option, None, Some, Result, Ok, Err}
use Rattle.std.specs.List.{list_any}
use Rattle.std.specs.Option.{option_map}
use Rattle.ir_core.specs.declared.values.Value.{Value}
use Rattle.ir_core.specs.declared.values.Value.TheVariants as value
use Rattle.ir_core.specs.declared.values.Kind.{Kind}
use Rattle.ir_core.specs.declared.values.Kind.TheVariants as kind
use Rattle.ir_core.specs.Types.{fits}
use Rattle.block_memory.specs.declared.items.Choice.{Choice}
use Rattle.block_memory.specs.declared.items.Choice.TheVariants as choice
use Rattle.block_memory.specs.declared.items.Shown.{Shown}
use Rattle.block_memory.specs.declared.items.Shown.TheVariants as shown
use Rattle.block_memory.specs.declared.names.ShowEnd.{ShowEnd}
use Rattle.block_memory.specs.declared.names.ShowEnd.TheVariants as end
use Rattle.block_memory.specs.Memory.{Memory}

-- what each name is bound to, from name 0 on: a block, or nothing
abbrev pub Names : Type 0
Names = List (Option ℕ)

abbrev pub is_bound_to : ℕ → Option ℕ → Bool
is_bound_to b None = false
is_bound_to b (Some c) = nat_eq c b

-- the first name of the block
abbrev pub name_of : Names → ℕ → Option ℕ
name_of [] b = None
name_of (x ∷ names) b = cond (is_bound_to b x) (Some 0) (option_map suc (name_of names b))

-- a name at an offset: undef, where it is bound to nothing
abbrev pub bound_value : Option ℕ → ℤ → Value
bound_value None offset = value.Undef
bound_value (Some b) offset = value.Ptr b offset

abbrev pub named_value : Option (Option ℕ) → ℤ → Value
named_value None offset = value.Undef
named_value (Some bound) offset = bound_value bound offset

abbrev pub resolved : Names → ℕ → ℤ → Value
resolved names x offset = named_value (slice_get names x) offset

-- ---- showing

-- what is shown, and the names after it
abbrev pub Showing : Type 0
Showing = Shown × Names

-- under the next name, which is then bound
abbrev pub under_next : Names → Option ℕ → ℤ → Showing
under_next names bound offset = (shown.Name (length names) offset, names ++ (bound ∷ []))

-- a pointer is shown by its block's name, or by the next where it has none
abbrev pub under_name : Names → ℕ → ℤ → Option ℕ → Showing
under_name names b offset None = under_next names (Some b) offset
under_name names b offset (Some x) = (shown.Name x offset, names)

-- of a value that is neither undef nor poison
abbrev pub shown_of : Names → Value → Option Showing
shown_of names (value.Num n) = Some (shown.Num n, names)
shown_of names (value.Bare a) = Some (shown.Bare a, names)
shown_of names (value.Ptr b o) = Some (under_name names b o (name_of names b))
shown_of names value.Undef = None
shown_of names value.Poison = None

-- the block is there, and no name is bound to it
abbrev pub is_unnamed : Memory → Names → ℕ → Bool
is_unnamed memory names b = nat_lt b (length memory) && not (list_any (is_bound_to b) names)

-- what undef is taken for by a choice that fits the kind
abbrev pub picked : Kind → Names → Shown → Option Showing
picked (kind.Int width) names (shown.Num n) = cond (fits n width) (Some (shown.Num n, names)) None
picked (kind.Int width) names (shown.Name x o) = None
picked (kind.Int width) names (shown.Bare a) = None
picked kind.Ptr names (shown.Num n) = None
picked kind.Ptr names (shown.Name x o) = cond (nat_lt x (length names)) (Some (shown.Name x o, names)) None
picked kind.Ptr names (shown.Bare a) = Some (shown.Bare a, names)

-- the next name, bound to nothing or to an unnamed block
abbrev pub fresh : Kind → Memory → Names → Option ℕ → ℤ → Option Showing
fresh (kind.Int width) memory names bound offset = None
fresh kind.Ptr memory names None offset = Some (under_next names None offset)
fresh kind.Ptr memory names (Some b) offset = cond (is_unnamed memory names b) (Some (under_next names (Some b) offset)) None

abbrev pub chosen : Kind → Memory → Names → Choice → Option Showing
chosen k memory names (choice.Pick s) = picked k names s
chosen k memory names (choice.Fresh bound offset) = fresh k memory names bound offset
chosen k memory names other = None

abbrev pub chosen_maybe : Kind → Memory → Names → Option Choice → Option Showing
chosen_maybe k memory names None = None
chosen_maybe k memory names (Some c) = chosen k memory names c

-- A value is shown so, and these are the names after it: a number and an address as what they are, a pointer by a name, undef as anything
-- of its kind. Poison is never shown.
abbrev pub IsShown : Value → Kind → Memory → Names → Shown → Names → Type 0
IsShown value.Undef k memory names s after = (c : Choice) × (chosen k memory names c ≡ Some (s, after))
IsShown value.Poison k memory names s after = ⊥
IsShown (value.Num n) k memory names s after = shown_of names (value.Num n) ≡ Some (s, after)
IsShown (value.Ptr b o) k memory names s after = shown_of names (value.Ptr b o) ≡ Some (s, after)
IsShown (value.Bare a) k memory names s after = shown_of names (value.Bare a) ≡ Some (s, after)

-- ---- what the code's parts answer

abbrev pub shown_if : Bool → Shown → Names → Option Showing
shown_if fitting s names = cond fitting (Some (s, names)) None

abbrev pub next_if : Bool → Names → Option ℕ → ℤ → Option Showing
next_if fitting names bound offset = cond fitting (Some (under_next names bound offset)) None

-- what is shown by a choice, or why not: where memory is refused, or where none fits, the names stay
abbrev pub Chooses : Names → Option Showing → Result Shown ShowEnd → Names → Type 0
Chooses old None answer new = (answer ≡ Err end.NoChoice) × (new ≡ old)
Chooses old (Some showing) (Ok s) new = showing ≡ (s, new)
Chooses old (Some showing) (Err e) new = (e ≡ end.Memory) × (new ≡ old)
