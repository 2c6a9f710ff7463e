-- What each rule makes fits where its right side does, which stands deeper where the rule counts.
use Rattle.std.proofs.Common.{◌≡◌, ◌<◌, ◌≤◌, ◌+◌, ℕ, zero, suc, Bool, true, false, nat_eq, List, [], ◌∷◌, length, map, Option, refl, subst, arith}
use Rattle.std.specs.Prelude.{◌||◌, cond}
use Rattle.std.specs.List.{AllByRecursion}
use Rattle.ir_core.specs.Depths.{deepest, depth_of, depth_of_constant, depth_of_init}
use Rattle.ir_types.specs.declared.names.Name.{Name}
use Rattle.module_grammar.specs.declared.commas.NextCountText.{NextCountText}
use Rattle.module_grammar.specs.declared.commas.NextCountText.TheVariants as next_count
use Rattle.module_grammar.specs.declared.commas.NextEntryText.{NextEntryText}
use Rattle.module_grammar.specs.declared.commas.NextEntryText.TheVariants as next_entry
use Rattle.module_grammar.specs.declared.commas.NextIndexText.{NextIndexText}
use Rattle.module_grammar.specs.declared.commas.NextIndexText.TheVariants as next_index
use Rattle.module_grammar.specs.declared.constants.ConstText.{ConstText}
use Rattle.module_grammar.specs.declared.constants.InitText.{InitText}
use Rattle.module_grammar.specs.declared.flow.BehindText.{BehindText}
use Rattle.module_grammar.specs.declared.flow.BehindText.TheVariants as behind_text
use Rattle.module_grammar.specs.declared.functions.NextDeclaredText.{NextDeclaredText}
use Rattle.module_grammar.specs.declared.functions.NextDeclaredText.TheVariants as next_declared
use Rattle.module_grammar.specs.declared.places.Placed.{Placed}
use Rattle.module_grammar.specs.declared.types.TypeText.{TypeText}
use Rattle.module_grammar.specs.ConstantRules as constant_rules
use Rattle.module_grammar.specs.ItemRules as item_rules
use Rattle.module_grammar.specs.TypeRules as type_rules
use Rattle.module_grammar.specs.Joined.{count_from, declared_from, entries_from, indices_from, with_register}
use Rattle.module_grammar.specs.Rules.{first_rule, meaning, rules}
use Rattle.module_grammar.specs.Sorts.{sort, vocabulary}
use Rattle.module_grammar.specs.Tokens.{gap}
use Rattle.module_spelling.specs.Opened.{constant_rules as counted_constants, init_rules, is_among, opens, pointers, type_rules as counted_types}
use Rattle.named_modules.specs.Constants.{const_of, init_of}
use Rattle.named_modules.specs.Types.{type_of}
use Rattle.predictive.specs.declared.symbol.Symbol.{Symbol}
use Rattle.predictive.specs.declared.symbol.Symbol.TheVariants.{Kind, Non}
use Rattle.predictive.specs.Meaning.{Each, EachOf}
use Rattle.predictive.specs.Typed.{Rule, made, nth}
use Rattle.module_texts.proofs.SpelledLimits.Depths.{deepest_within, max_within, of_array, of_array_init, of_bytes, of_cast, of_const, of_element, of_global, of_int, of_named, of_null, of_number, of_struct, of_struct_init, of_undef, of_zero, pair_depth, part_depth}
use Rattle.module_texts.proofs.SpelledLimits.Fits.{BehindFits, BodyFits, CountFits, DeclaredFits, EntryFits, Fits, NextCountFits, NextEntryFits, NextFits, NextIndexFits, OperandFits, PairFits, PartFits, TypeFits}

abbrev pub fits_at : (n : ℕ) → ℕ → ℕ → vocabulary.Value n → Type 0
fits_at n d l v = Fits d l (sort n) v

abbrev deeper_if : Bool → ℕ → ℕ
deeper_if true n = suc n
deeper_if false n = n

-- so much stands around what is in a rule's node
abbrev pub deeper : ℕ → ℕ → ℕ
deeper p n = deeper_if (is_among p counted_types || (is_among p counted_constants || is_among p init_rules)) n

deeper_bit : (b : Bool) (d : ℕ) → d + cond b 1 0 ≡ deeper_if b d
deeper_bit true d = omega arith
deeper_bit false d = omega arith

pub deeper_is : (p d : ℕ) → d + opens p ≡ deeper p d
deeper_is p d = deeper_bit (is_among p counted_types || (is_among p counted_constants || is_among p init_rules)) d

-- each value fits, and each token is one of the text, but for gaps
abbrev pub EachFits : ℕ → ℕ → (s : List Symbol) → Each meaning s → Type 0
EachFits d l [] vs = Unit {0}
EachFits d l (Kind k ∷ s) vs = (nat_eq k gap.kind ≡ false → d ≤ l) × EachFits d l s vs.1
EachFits d l (Non n ∷ s) vs = fits_at n d l vs.0 × EachFits d l s vs.1

abbrev pub IsFitting : ℕ → Rule vocabulary → Type 0
IsFitting p r =
    (d l : ℕ) (vs : EachOf vocabulary.Content vocabulary.Value r.right) → EachFits (deeper p d) l r.right vs → fits_at r.left d l (made vocabulary r vs)

abbrev pub UnlessPointers : Bool → Type 0 → Type 0
UnlessPointers true P = Unit {0}
UnlessPointers false P = P

abbrev AllFrom : ℕ → List (Rule vocabulary) → Type 0
AllFrom p [] = Unit {0}
AllFrom p (r ∷ rs) = UnlessPointers (nat_eq p pointers) (IsFitting p r) × AllFrom (suc p) rs

-- ---- types

int_type : IsFitting 75 type_rules.int_type
int_type d l vs f = let here : suc d ≤ l = f.0 refl in let one = of_int vs.0 in omega (arith, here, one)

named_base : IsFitting 76 type_rules.named_base
named_base d l vs f = let here : suc d ≤ l = f.0 refl in let one = of_named vs.0 in omega (arith, here, one)

array_type : IsFitting 77 type_rules.array_type
array_type d l vs f =
    let inside : suc d + depth_of (type_of vs.1.1.1.0) ≤ l = f.1.1.1.0 in
    let more = of_array vs.0 vs.1.0 vs.1.1.1.0 in
    omega (arith, inside, more)

-- the depths of types that fit
types_within : (d l : ℕ) (ts : List TypeText) → AllByRecursion (TypeFits d l) ts → AllByRecursion (λ n. d + n ≤ l) (map depth_of (map type_of ts))
types_within d l [] all = tt
types_within d l (t ∷ ts) all = (all.0, types_within d l ts all.1)

fields_within : (d l : ℕ) (ts : List TypeText) → suc d ≤ l → AllByRecursion (TypeFits (suc d) l) ts → d + (deepest (map depth_of (map type_of ts)) + 1) ≤ l
fields_within d l ts here all =
    let inside = deepest_within (suc d) l (map depth_of (map type_of ts)) here (types_within (suc d) l ts all) in omega (arith, inside)

struct_type : IsFitting 78 type_rules.struct_type
struct_type d l vs f =
    let inside = fields_within d l vs.1.0 (f.0 refl) f.1.0 in
    let more = of_struct vs.0 vs.1.0 in
    omega (arith, inside, more)

struct_body : IsFitting 10 item_rules.struct_body
struct_body d l vs f = fields_within d l vs.1.0 (f.0 refl) f.1.0

stars : IsFitting 80 type_rules.stars
stars d l (at, ([], tt)) f = let here : suc d ≤ l = f.0 refl in omega (arith, here)
stars d l (at, (b ∷ more, tt)) f = let inside : suc d + length (b ∷ more) ≤ l = f.1.0 in omega (arith, inside)

-- ---- constants

int_const : IsFitting 99 constant_rules.int_const
int_const d l vs f t = let here : suc d ≤ l = f.0 in let one = of_number t vs.0 in omega (arith, here, one)

null_const : IsFitting 100 constant_rules.null_const
null_const d l vs f t = let here : suc d ≤ l = f.0 refl in let one = of_null t vs.0 in omega (arith, here, one)

undef_const : IsFitting 101 constant_rules.undef_const
undef_const d l vs f t = let here : suc d ≤ l = f.0 refl in let one = of_undef t in omega (arith, here, one)

global_const : IsFitting 102 constant_rules.global_const
global_const d l vs f t = let here : suc d ≤ l = f.0 in let one = of_global t vs.0 in omega (arith, here, one)

pairs_within : (d l : ℕ) (ps : List (TypeText × ConstText)) → AllByRecursion (PairFits d l) ps → AllByRecursion (λ n. d + n ≤ l) (map pair_depth ps)
pairs_within d l [] all = tt
pairs_within d l (p ∷ ps) all =
    (max_within d (depth_of (type_of p.0)) (depth_of_constant (const_of p.1 (type_of p.0))) l all.0.0 (all.0.1 (type_of p.0)), pairs_within d l ps all.1)

element_const : IsFitting 103 constant_rules.element_const
element_const d l (at, (inbounds, (_, (of, (_, (base_ty, (base, (indices, _)))))))) f t =
    let here : suc d ≤ l = f.0 refl in
    let first : TypeFits (suc d) l of = f.1.1.1.0 in
    let parts : AllByRecursion (PairFits (suc d) l) ((base_ty, base) ∷ indices) = ((f.1.1.1.1.1.0, f.1.1.1.1.1.1.0), f.1.1.1.1.1.1.1.0) in
    let inside = deepest_within (suc d) l (map pair_depth ((base_ty, base) ∷ indices)) here (pairs_within (suc d) l ((base_ty, base) ∷ indices) parts) in
    let whole = max_within (suc d) (depth_of (type_of of)) (deepest (map pair_depth ((base_ty, base) ∷ indices))) l first inside in
    let more = of_element t at inbounds of base_ty base indices in
    omega (arith, whole, more)

cast_const : IsFitting 104 constant_rules.cast_const
cast_const d l (at, (_, (from, (c, (_, (target, _)))))) f t =
    let here : suc d ≤ l = f.0 refl in
    let last : TypeFits (suc d) l target = f.1.1.1.1.1.0 in
    let parts : AllByRecursion (PairFits (suc d) l) ((from, c) ∷ []) = ((f.1.1.0, f.1.1.1.0), tt) in
    let inside = deepest_within (suc d) l (map pair_depth ((from, c) ∷ [])) here (pairs_within (suc d) l ((from, c) ∷ []) parts) in
    let whole = max_within (suc d) (depth_of (type_of target)) (deepest (map pair_depth ((from, c) ∷ []))) l last inside in
    let more = of_cast t at from c target in
    omega (arith, whole, more)

-- ---- initialisers

const_init : IsFitting 107 constant_rules.const_init
const_init d l vs f t = let same = of_const t vs.0 in let here : d + depth_of_constant (const_of vs.0 t) ≤ l = f.0 t in omega (arith, here, same)

zero_init : IsFitting 108 constant_rules.zero_init
zero_init d l vs f t = let here : suc d ≤ l = f.0 refl in let one = of_zero t in omega (arith, here, one)

bytes_init : IsFitting 109 constant_rules.bytes_init
bytes_init d l vs f t = let here : suc d ≤ l = f.0 refl in let one = of_bytes t vs.1.0 in omega (arith, here, one)

parts_within : (d l : ℕ) (ps : List (TypeText × InitText)) → AllByRecursion (PartFits d l) ps → AllByRecursion (λ n. d + n ≤ l) (map part_depth ps)
parts_within d l [] all = tt
parts_within d l (p ∷ ps) all =
    (max_within d (depth_of (type_of p.0)) (depth_of_init (init_of p.1 (type_of p.0))) l all.0.0 (all.0.1 (type_of p.0)), parts_within d l ps all.1)

array_init : IsFitting 110 constant_rules.array_init
array_init d l vs f t =
    let inside = deepest_within (suc d) l (map part_depth vs.1.0) (f.0 refl) (parts_within (suc d) l vs.1.0 f.1.0) in
    let more = of_array_init t vs.0 vs.1.0 in
    omega (arith, inside, more)

struct_init : IsFitting 111 constant_rules.struct_init
struct_init d l vs f t =
    let inside = deepest_within (suc d) l (map part_depth vs.1.0) (f.0 refl) (parts_within (suc d) l vs.1.0 f.1.0) in
    let more = of_struct_init t vs.0 vs.1.0 in
    omega (arith, inside, more)

-- ---- what stands behind a comma, and behind a register

from_next : (d l : ℕ) (x : NextDeclaredText) → NextFits d l x → DeclaredFits d l (declared_from x)
from_next d l next_declared.Open f = tt
from_next d l (next_declared.Param p more) f = f

from_count : (d l : ℕ) (x : NextCountText) → NextCountFits d l x → CountFits d l (count_from x).count
from_count d l (next_count.Count c b) f = f
from_count d l (next_count.Other x) f = f

from_index : (d l : ℕ) (x : NextIndexText) → NextIndexFits d l x → AllByRecursion (OperandFits d l) (indices_from x).indices
from_index d l (next_index.Index o more) f = f
from_index d l (next_index.Attachment first others) f = f

from_entry : (d l : ℕ) (x : NextEntryText) → NextEntryFits d l x → AllByRecursion (EntryFits d l) (entries_from x).entries
from_entry d l (next_entry.Entry e more) f = f
from_entry d l (next_entry.Attachment first others) f = f

from_behind : (d l : ℕ) (register : Option (Placed Name)) (x : BehindText) → BehindFits d l x → BodyFits d l (with_register register x)
from_behind d l register (behind_text.Phi node b) f = ((f.0, f.1.0), f.1.1)
from_behind d l register (behind_text.Line attached lines) f = (tt, f)

-- ---- all rules

fitting : AllFrom 0 rules
fitting = ((λ d l vs f. tt), ((λ d l vs f. (f.0, f.1.0)), ((λ d l vs f. tt), ((λ d l vs f. tt), ((λ d l vs f. tt), ((λ d l vs f. (f.1.0, f.1.1.0)), ((λ d l vs f. f.1.1.1.0), ((λ d l vs f. f.1.1.0), ((λ d l vs f. (f.1.1.0, (f.1.1.1.1.1.0, f.1.1.1.1.1.1.0))), ((λ d l vs f. tt), (struct_body, ((λ d l vs f. (f.1.1.1.0, tt)), ((λ d l vs f. (f.1.1.1.0, f.1.1.1.1.0)), ((λ d l vs f. tt), ((λ d l vs f. tt), ((λ d l vs f. tt), ((λ d l vs f. tt), ((λ d l vs f. f.1.1.0), ((λ d l vs f. tt), ((λ d l vs f. tt), ((λ d l vs f. from_next d l vs.0 f.0), ((λ d l vs f. tt), ((λ d l vs f. from_next d l vs.1.0 f.1.0), ((λ d l vs f. tt), ((λ d l vs f. (f.0, f.1.0)), ((λ d l vs f. f.1.1.0), ((λ d l vs f. tt), ((λ d l vs f. tt), ((λ d l vs f. tt), ((λ d l vs f. f.0), ((λ d l vs f. (f.0, f.1.1.1.0)), ((λ d l vs f. tt), ((λ d l vs f. tt), ((λ d l vs f. tt), ((λ d l vs f. tt), ((λ d l vs f. tt), ((λ d l vs f. tt), ((λ d l vs f. tt), ((λ d l vs f. (f.0, f.1.0)), ((λ d l vs f. tt), ((λ d l vs f. (f.1.0, f.1.1.0)), ((λ d l vs f. f.0), ((λ d l vs f. tt), ((λ d l vs f. tt), ((λ d l vs f. tt), ((λ d l vs f. tt), ((λ d l vs f. tt), ((λ d l vs f. tt), ((λ d l vs f. tt), ((λ d l vs f. tt), ((λ d l vs f. tt), ((λ d l vs f. tt), ((λ d l vs f. tt), ((λ d l vs f. tt), ((λ d l vs f. tt), ((λ d l vs f. tt), ((λ d l vs f. tt), ((λ d l vs f. tt), ((λ d l vs f. tt), ((λ d l vs f. tt), ((λ d l vs f. tt), ((λ d l vs f. tt), ((λ d l vs f. tt), ((λ d l vs f. tt), ((λ d l vs f. tt), ((λ d l vs f. tt), ((λ d l vs f. tt), ((λ d l vs f. tt), ((λ d l vs f. tt), ((λ d l vs f. tt), ((λ d l vs f. tt), ((λ d l vs f. tt), ((λ d l vs f. tt), ((λ d l vs f. tt), (tt, (int_type, (named_base, (array_type, (struct_type, ((λ d l vs f. tt), (stars, ((λ d l vs f. tt), ((λ d l vs f. (f.0, f.1.0)), ((λ d l vs f. tt), ((λ d l vs f. (f.1.0, f.1.1.0)), ((λ d l vs f. tt), ((λ d l vs f. tt), ((λ d l vs f. tt), ((λ d l vs f. tt), ((λ d l vs f. tt), ((λ d l vs f. tt), ((λ d l vs f. tt), ((λ d l vs f. tt), ((λ d l vs f. f.0 refl), ((λ d l vs f. f.0 refl), ((λ d l vs f. f.0 refl), ((λ d l vs f. f.0 refl), ((λ d l vs f. tt), ((λ d l vs f. tt), (int_const, (null_const, (undef_const, (global_const, (element_const, (cast_const, ((λ d l vs f. tt), ((λ d l vs f. ((f.1.0, f.1.1.0), f.1.1.1.0)), (const_init, (zero_init, (bytes_init, (array_init, (struct_init, ((λ d l vs f. tt), ((λ d l vs f. ((f.0, f.1.0), f.1.1.0)), ((λ d l vs f. tt), ((λ d l vs f. ((f.1.0, f.1.1.0), f.1.1.1.0)), ((λ d l vs f. f.0), ((λ d l vs f. tt), ((λ d l vs f. tt), ((λ d l vs f. tt), ((λ d l vs f. (f.0, f.1.0)), ((λ d l vs f. tt), ((λ d l vs f. tt), ((λ d l vs f. tt), ((λ d l vs f. tt), ((λ d l vs f. tt), ((λ d l vs f. tt), ((λ d l vs f. tt), ((λ d l vs f. (f.1.0, f.1.1.1.0)), ((λ d l vs f. (f.1.1.0, f.1.1.1.1.0)), ((λ d l vs f. (f.1.0, f.1.1.1.0)), ((λ d l vs f. (f.1.0, f.1.1.1.0)), ((λ d l vs f. (f.1.0, f.1.1.1.0, f.1.1.1.1.1.0)), ((λ d l vs f. f.0), ((λ d l vs f. (f.1.1.0, f.1.1.1.1.0, f.1.1.1.1.1.0)), ((λ d l vs f. (f.1.0, f.1.1.0)), ((λ d l vs f. (f.1.0, f.1.1.1.0)), ((λ d l vs f. (f.1.0, f.1.1.1.0)), ((λ d l vs f. f.1.1.0), ((λ d l vs f. f.1.0), ((λ d l vs f. tt), ((λ d l vs f. tt), ((λ d l vs f. tt), ((λ d l vs f. tt), ((λ d l vs f. tt), ((λ d l vs f. from_count d l vs.1.0 f.1.0), ((λ d l vs f. f.0), ((λ d l vs f. tt), ((λ d l vs f. tt), ((λ d l vs f. from_index d l vs.1.0 f.1.0), ((λ d l vs f. (f.0, f.1.0)), ((λ d l vs f. tt), ((λ d l vs f. (f.1.1.0, f.1.1.1.0)), ((λ d l vs f. (f.1.1.0, f.1.1.1.0)), ((λ d l vs f. (f.0, f.1.1.1.0)), ((λ d l vs f. f.1.0), ((λ d l vs f. f.0), ((λ d l vs f. f.0), ((λ d l vs f. f.1.1.1.0), ((λ d l vs f. f.1.0), ((λ d l vs f. tt), ((λ d l vs f. f.1.0), ((λ d l vs f. tt), ((λ d l vs f. (f.0, f.1.0)), ((λ d l vs f. tt), ((λ d l vs f. (f.1.0, f.1.1.0)), ((λ d l vs f. (f.0, f.1.1.0)), ((λ d l vs f. f.1.0), ((λ d l vs f. tt), ((λ d l vs f. tt), ((λ d l vs f. tt), ((λ d l vs f. (f.0, f.1.0)), ((λ d l vs f. tt), ((λ d l vs f. tt), ((λ d l vs f. tt), ((λ d l vs f. tt), ((λ d l vs f. tt), ((λ d l vs f. tt), ((λ d l vs f. tt), ((λ d l vs f. (f.1.0, f.1.1.0)), ((λ d l vs f. tt), ((λ d l vs f. tt), ((λ d l vs f. tt), ((λ d l vs f. (f.0, f.1.0)), ((λ d l vs f. (tt, tt)), ((λ d l vs f. from_behind d l vs.0 vs.1.0 f.1.0), ((λ d l vs f. (f.0, f.1.0)), ((λ d l vs f. (f.0, f.1.0)), ((λ d l vs f. (f.1.0, (f.1.1.0, f.1.1.1.0))), ((λ d l vs f. tt), ((λ d l vs f. from_entry d l vs.1.0 f.1.0), ((λ d l vs f. (f.0, f.1.0)), ((λ d l vs f. tt), ((λ d l vs f. f.1.0), ((λ d l vs f. f.0), ((λ d l vs f. f.1.0), ((λ d l vs f. f.1.0), ((λ d l vs f. (f.1.0, f.1.1.1.1.1.1.0)), ((λ d l vs f. tt), ((λ d l vs f. tt), ((λ d l vs f. f.0), ((λ d l vs f. tt), ((λ d l vs f. f.0), ((λ d l vs f. tt), ((λ d l vs f. (f.0, f.1.0)), ((λ d l vs f. f.0), tt))))))))))))))))))))))))))))))))))))))))))))))))))))))))))))))))))))))))))))))))))))))))))))))))))))))))))))))))))))))))))))))))))))))))))))))))))))))))))))))))))))))))))))))))))))))))))))))))))))))))))))))

fitting_at : (rs : List (Rule vocabulary)) (i p : ℕ) → AllFrom i rs → p < length rs → UnlessPointers (nat_eq (i + p) pointers) (IsFitting (i + p) (nth first_rule rs p))
fitting_at [] i p all h = absurd (grind arith)
fitting_at (r ∷ rs) i zero all h = let here : i ≡ i + 0 = omega arith in subst (λ j. UnlessPointers (nat_eq j pointers) (IsFitting j r)) here all.0
fitting_at (r ∷ rs) i (suc p) all h =
    let next : suc i + p ≡ i + suc p = omega arith in
    subst (λ j. UnlessPointers (nat_eq j pointers) (IsFitting j (nth first_rule rs p))) next (fitting_at rs (suc i) p all.1 (grind arith))

pub each_fits : (p : ℕ) → p < length rules → UnlessPointers (nat_eq p pointers) (IsFitting p (nth first_rule rules p))
each_fits p h =
    let same : 0 + p ≡ p = omega arith in
    subst (λ j. UnlessPointers (nat_eq j pointers) (IsFitting j (nth first_rule rules p))) same (fitting_at rules 0 p fitting h)
