-- What the examples want, by the equations of layouts.
use Rattle.std.proofs.Common.{◌≡◌, ◌∙◌, ◌<◌, ◌≤◌, ◌+◌, ℕ, true, false, List, [], ◌∷◌, ◌++◌, ◌&&◌, Bool, Result, Ok, Err, Some, refl, sym, ap, subst, arith}
use Rattle.std.proofs.lemmas.List.{append-nil}
use Rattle.ir_types.specs.declared.names.Name.{Name}
use Rattle.ir_types.specs.declared.sizes.SizeFault.{SizeFault}
use Rattle.ir_types.specs.declared.sizes.SizeFault.TheVariants.{TooLarge, Unsized}
use Rattle.ir_types.specs.declared.ty.Ty.{Ty, Int, Ptr, Array, Named}
use Rattle.ir_types.specs.declared.ty.Ty.TheViews.{outs-Array}
use Rattle.ir_types.specs.Named.{block_of}
use Rattle.ir_types.proofs.Monotone as layout
use Rattle.ir_core.specs.declared.modules.Init as init
use Rattle.ir_core.specs.declared.modules.Module.{Module}
use Rattle.ir_core.specs.declared.operands.Const.{Const, Number, Undef, Global, Element, Cast, fold-Const}
use Rattle.ir_core.specs.Depths.{IsShallow, depth_of}
use Rattle.ir_core.specs.Sizes.{AreSmall, Blocks, Wanted, indices_behind, one_of_each, stepped, wanted_at_level, wanted_by_constant, wanted_by_init_at, wanted_by_line, wanted_by_parts, wanted_in}
use Rattle.ir_core.specs.Examples.{f, held, typed, x, y}
use Rattle.ir_core.specs.Limits.{depth_limit}
use Rattle.ir_core.proofs.Constants as constants
use Rattle.ir_core.proofs.Inits as inits
use Rattle.ir_typing.specs.ModuleLimits.Small.{are_small, is_none_larger}
use Rattle.ir_typing.proofs.ModuleLimits.Decided.{small_by, small_not}
use Rattle.ir_typing.specs.OperandLaws.Blocks.{BlocksAreCounted, CountsBlock, DepthsComeFirst, OperandsWant, PartsWant, TypesWantNothing, address, entering, large, no_large, opaque, starting_at, starting_with, stepping, too_many}
use Rattle.ir_typing.specs.OperandLaws.Depths.{byte, indexing, pointers}
use Rattle.ir_typing.proofs.OperandLaws.Depths.{of_array, of_pointers}

-- ---- blocks

fits : (r : Result ℕ SizeFault) (n : ℕ) → r ≡ Ok n → r ≡ Err TooLarge → ⊥
fits r n is large = cc

unsized : (r : Result ℕ SizeFault) → r ≡ Err Unsized → r ≡ Err TooLarge → ⊥
unsized r is large = cc

no_large_fits : block_of [] no_large 1 ≡ Err TooLarge → ⊥
no_large_fits = fits (block_of [] no_large 1) 0 (simp (layout.at_int, layout.at_array) refl)

large_is : block_of [] large 1 ≡ Err TooLarge
large_is = simp (layout.at_int, layout.at_array) refl

pointer_is : block_of [] (Ptr (Int 8)) 1 ≡ Ok 8
pointer_is = simp (layout.at_ptr) refl

pointer_fits : block_of [] (Ptr (Int 8)) 1 ≡ Err TooLarge → ⊥
pointer_fits = fits (block_of [] (Ptr (Int 8)) 1) 8 pointer_is

abbrev wanted : Const → Wanted
wanted = fold-Const Wanted (wanted_at_level [])

number_is : (n : ℕ) → (wanted (Number n)).number ≡ Some n
number_is n = ap (λ (w : Wanted). w.number) (constants.at_number Wanted (wanted_at_level []) n)

number_wants : (n : ℕ) → (wanted (Number n)).blocks ≡ []
number_wants n = ap (λ (w : Wanted). w.blocks) (constants.at_number Wanted (wanted_at_level []) n)

global_wants : (x : Name) → (wanted (Global x)).blocks ≡ []
global_wants x = ap (λ (w : Wanted). w.blocks) (constants.at_global Wanted (wanted_at_level []) x)

-- the constants behind their types, with what is wanted in each
abbrev parts : List (Ty × Const) → List (Ty × Wanted)
parts = constants.folded_parts Wanted (wanted_at_level [])

address_wants : (is : List (Ty × Const))
    → (wanted (address is)).blocks ≡ one_of_each (stepped [] no_large (indices_behind (parts ((Ptr no_large, Global f) ∷ is)))) ++ wanted_by_parts (parts ((Ptr no_large, Global f) ∷ is))
address_wants is = ap (λ (w : Wanted). w.blocks) (constants.at_element Wanted (wanted_at_level []) false no_large ((Ptr no_large, Global f) ∷ is))

-- an index alone goes over many, and a second one enters

stepped_wants : wanted_by_line [] (stepping (typed (Int 64) 1 ∷ [])) ≡ (no_large, 1) ∷ []
stepped_wants = simp (number_wants) refl

entered_wants : wanted_by_line [] (stepping (typed (Int 64) 0 ∷ typed (Int 64) 0 ∷ [])) ≡ (no_large, 1) ∷ (large, 1) ∷ []
entered_wants = simp (outs-Array, number_wants) refl

constant_stepped_wants : wanted_in (starting_at (address ((Int 64, Number 1) ∷ []))) ≡ (Ptr (Int 8), 1) ∷ (no_large, 1) ∷ []
constant_stepped_wants = simp (inits.at_const Blocks (wanted_by_init_at []), address_wants, global_wants, number_wants) refl

constant_entered_wants : wanted_in (starting_at (address ((Int 64, Number 0) ∷ (Int 64, Number 0) ∷ []))) ≡ (Ptr (Int 8), 1) ∷ (no_large, 1) ∷ (large, 1) ∷ []
constant_entered_wants =
    simp (outs-Array, inits.at_const Blocks (wanted_by_init_at []), address_wants, global_wants, number_wants, number_is) refl

pub blocks_are_counted : BlocksAreCounted
blocks_are_counted = record {
  exactly = (fits (block_of [] (Array 2147483648 (Int 8)) 1) 2147483648 (simp (layout.at_int, layout.at_array) refl), tt);
  one_more = λ small. small.0 (simp (layout.at_int, layout.at_array) refl);
  huge = λ small. small.0 (simp (layout.at_int, layout.at_array) refl);
  unsized = (unsized (block_of opaque (Named y) 1) (simp (layout.at_named) refl), tt);
  allocated = (fits (block_of [] (Int 32) 536870912) 2147483648 (simp (layout.at_int) refl), tt);
  one_more_allocated = λ small. small.0 (simp (layout.at_int) refl);
  allocated_alone = (fits (block_of [] (Array 2147483648 (Int 8)) 1) 2147483648 (simp (layout.at_int, layout.at_array) refl), tt);
  one_more_alone = λ small. small.0 (simp (layout.at_int, layout.at_array) refl);
  other_count = λ count. refl;
  none = (no_large_fits, tt);
  stepped = subst (AreSmall []) (sym stepped_wants) (no_large_fits, tt);
  entered = λ small. let each = subst (AreSmall []) entered_wants small in each.1.0 large_is;
  constant_stepped = subst (AreSmall []) (sym constant_stepped_wants) (pointer_fits, (no_large_fits, tt));
  constant_entered = λ small. let each = subst (AreSmall []) constant_entered_wants small in each.1.1.0 large_is;
}

-- ---- where constants want memory

undef_wants : (wanted Undef).blocks ≡ []
undef_wants = ap (λ (w : Wanted). w.blocks) (constants.at_undef Wanted (wanted_at_level []))

-- none of them is behind the address, and one of them behind its indices
abbrev behind : ℕ → Blocks
behind size = (Array 0 (Array size (Int 8)), 1) ∷ (Array size (Int 8), 1) ∷ []

entering_wants : (size : ℕ) → wanted_by_constant [] (entering size) ≡ behind size
entering_wants size =
    let of = Array 0 (Array size (Int 8)) in
    ap (λ (w : Wanted). w.blocks) (constants.at_element Wanted (wanted_at_level []) false of ((Ptr of, Global f) ∷ (Int 64, Number 0) ∷ (Int 64, Number 0) ∷ []))
    ∙ simp (outs-Array, global_wants, number_wants, number_is) refl

-- what is wanted in a module, where this is wanted in that place
counts_block : (at : Const → Module) (blocks : Blocks → Blocks)
    → ((c : Const) → are_small (at c).types (wanted_in (at c)) ≡ are_small [] (blocks (wanted_by_constant [] c)))
    → are_small [] (blocks (behind 2147483648)) ≡ true → are_small [] (blocks (behind 2147483649)) ≡ false → CountsBlock at
counts_block at blocks are low high =
    let small = λ (bs : Blocks). are_small [] (blocks bs) in
    let here = entering 2147483648 in
    let there = entering 2147483649 in
    record {
      at_limit = small_by (at here).types (wanted_in (at here)) (are here ∙ ap small (entering_wants 2147483648) ∙ low);
      beyond = small_not (at there).types (wanted_in (at there)) (are there ∙ ap small (entering_wants 2147483649) ∙ high);
    }

low : are_small [] (behind 2147483648) ≡ true
low = simp (layout.at_int, layout.at_array) refl

high : are_small [] (behind 2147483649) ≡ false
high = simp (layout.at_int, layout.at_array) refl

-- nothing else is wanted
alone : (at : Const → Module) → ((c : Const) → are_small (at c).types (wanted_in (at c)) ≡ are_small [] (wanted_by_constant [] c)) → CountsBlock at
alone at are = counts_block at (λ bs. bs) are low high

-- one of a type besides
beside : (at : Const → Module) (t : Ty) (size : ℕ) → block_of [] t 1 ≡ Ok size
    → ((c : Const) → are_small (at c).types (wanted_in (at c)) ≡ are_small [] ((t, 1) ∷ wanted_by_constant [] c)) → CountsBlock at
beside at t size fits are =
    let one = λ (b : Bool). ap (λ (r : Result ℕ SizeFault). is_none_larger r && b) fits in
    counts_block at (λ bs. (t, 1) ∷ bs) are (one (are_small [] (behind 2147483648)) ∙ low) (one (are_small [] (behind 2147483649)) ∙ high)

byte_is : block_of [] (Int 8) 1 ≡ Ok 1
byte_is = simp (layout.at_int) refl

start_wants : (c : Const) → wanted_in (starting_at c) ≡ (Ptr (Int 8), 1) ∷ wanted_by_constant [] c
start_wants c =
    let bs = wanted_by_constant [] c in
    simp (inits.at_const Blocks (wanted_by_init_at [])) (ap (λ (all : Blocks). (Ptr (Int 8), 1) ∷ all) (append-nil (bs ++ []) ∙ append-nil bs))

-- what an operand of the one line of a function wants, behind another block
in_line : (b : Ty × ℕ) (bs : Blocks) → b ∷ (((((bs ++ []) ++ []) ++ []) ++ []) ++ []) ≡ b ∷ bs
in_line b bs = ap (λ (all : Blocks). b ∷ all) (simp (append-nil) refl)

base_wants : (c : Const) → wanted_in (indexing (Int 8) (byte c) (typed (Int 64) 1)) ≡ (Int 8, 1) ∷ wanted_by_constant [] c
base_wants c = simp (number_wants) (in_line (Int 8, 1) (wanted_by_constant [] c))

index_wants : (c : Const) → wanted_in (indexing (Int 8) (held (Ptr (Int 8)) x) (byte c)) ≡ (Int 8, 1) ∷ wanted_by_constant [] c
index_wants c = in_line (Int 8, 1) (wanted_by_constant [] c)

pub operands_want : OperandsWant
operands_want = record {
  start = beside _ (Ptr (Int 8)) 8 pointer_is (λ c. ap (are_small []) (start_wants c));
  converted = alone _ (λ c. simp (append-nil) refl);
  base = beside _ (Int 8) 1 byte_is (λ c. ap (are_small []) (base_wants c));
  index = beside _ (Int 8) 1 byte_is (λ c. ap (are_small []) (index_wants c));
  loaded_from = alone _ (λ c. simp (append-nil) refl);
  stored = alone _ (λ c. simp (append-nil) refl);
  stored_to = alone _ (λ c. simp (append-nil) refl);
  argument = alone _ (λ c. simp (append-nil) refl);
  entry = alone _ (λ c. simp (append-nil) refl);
  returned = alone _ (λ c. simp (append-nil) refl);
  condition = alone _ (λ c. simp (append-nil) refl);
  switched = alone _ (λ c. simp (append-nil) refl);
}

recast_wants : (c : Const) → wanted_in (starting_at (Cast (Ptr (Int 8), (Ptr (Int 8), c) ∷ []))) ≡ (Ptr (Int 8), 1) ∷ wanted_by_constant [] c
recast_wants c =
    start_wants (Cast (Ptr (Int 8), (Ptr (Int 8), c) ∷ []))
    ∙ ap (λ (w : Wanted). (Ptr (Int 8), 1) ∷ w.blocks) (constants.at_cast Wanted (wanted_at_level []) (Ptr (Int 8)) ((Ptr (Int 8), c) ∷ []))
    ∙ ap (λ (bs : Blocks). (Ptr (Int 8), 1) ∷ bs) (append-nil (wanted_by_constant [] c))

inner_base_wants : (c : Const) → wanted_in (starting_at (Element (false, Int 8, (Ptr (Int 8), c) ∷ []))) ≡ (Ptr (Int 8), 1) ∷ (Int 8, 1) ∷ wanted_by_constant [] c
inner_base_wants c =
    start_wants (Element (false, Int 8, (Ptr (Int 8), c) ∷ []))
    ∙ ap (λ (w : Wanted). (Ptr (Int 8), 1) ∷ w.blocks) (constants.at_element Wanted (wanted_at_level []) false (Int 8) ((Ptr (Int 8), c) ∷ []))
    ∙ ap (λ (bs : Blocks). (Ptr (Int 8), 1) ∷ (Int 8, 1) ∷ bs) (append-nil (wanted_by_constant [] c))

-- a part of what a global holds is its only one
in_start : (b : Ty × ℕ) (bs : Blocks) → b ∷ (((bs ++ []) ++ []) ++ []) ≡ b ∷ bs
in_start b bs = ap (λ (all : Blocks). b ∷ all) (simp (append-nil) refl)

element_wants : (c : Const) → wanted_in (starting_with (init.Array ((Ptr (Int 8), init.Const c) ∷ []))) ≡ (Ptr (Int 8), 1) ∷ wanted_by_constant [] c
element_wants c = simp (inits.at_array Blocks (wanted_by_init_at []), inits.at_const Blocks (wanted_by_init_at [])) (in_start (Ptr (Int 8), 1) (wanted_by_constant [] c))

field_wants : (c : Const) → wanted_in (starting_with (init.Struct ((Ptr (Int 8), init.Const c) ∷ []))) ≡ (Ptr (Int 8), 1) ∷ wanted_by_constant [] c
field_wants c = simp (inits.at_struct Blocks (wanted_by_init_at []), inits.at_const Blocks (wanted_by_init_at [])) (in_start (Ptr (Int 8), 1) (wanted_by_constant [] c))

pub parts_want : PartsWant
parts_want = record {
  recast = beside _ (Ptr (Int 8)) 8 pointer_is (λ c. ap (are_small []) (recast_wants c));
  base = counts_block _ (λ bs. (Ptr (Int 8), 1) ∷ (Int 8, 1) ∷ bs) (λ c. ap (are_small []) (inner_base_wants c)) (simp (layout.at_int, layout.at_ptr, layout.at_array) refl) (simp (layout.at_int, layout.at_ptr, layout.at_array) refl);
  element = beside _ (Ptr (Int 8)) 8 pointer_is (λ c. ap (are_small []) (element_wants c));
  field = beside _ (Ptr (Int 8)) 8 pointer_is (λ c. ap (are_small []) (field_wants c));
}

pub types_want_nothing : TypesWantNothing
types_want_nothing = record {
  converted = refl;
  loaded = refl;
  stored = refl;
  called = refl;
  phi = simp (undef_wants) refl;
  returned = refl;
}

-- ---- which is first

too_many_are : (t : Ty) → block_of [] (Array 2147483649 (Ptr t)) 1 ≡ Err TooLarge
too_many_are t = simp (layout.at_ptr, layout.at_array) refl

within : (t : Ty) (n : ℕ) → depth_of t ≡ n → n + 1 ≤ depth_limit → IsShallow (too_many t)
within t n is low = (omega (arith, of_array 2147483649 t), tt)

deeper : (t : Ty) (n : ℕ) → depth_of t ≡ n → depth_limit < n + 1 → IsShallow (too_many t) → ⊥
deeper t n is high shallow = omega (arith, of_array 2147483649 t, shallow.0)

pub depths_come_first : DepthsComeFirst
depths_come_first = record {
  both = deeper (pointers 63) 64 (of_pointers 63) (omega arith);
  not_blocks = λ passed. deeper (pointers 63) 64 (of_pointers 63) (omega arith) passed.0;
  blocks = (within (pointers 62) 63 (of_pointers 62) (omega arith), tt, λ small. small.0 (too_many_are (pointers 61)));
  not_depths = λ passed. passed (within (pointers 62) 63 (of_pointers 62) (omega arith));
}
