-- Where what a rule makes fits, its right side does, which stands deeper where the rule counts.
use Rattle.std.proofs.Common.{◌≡◌, ◌<◌, ◌≤◌, ◌+◌, ℕ, zero, suc, nat_eq, List, [], ◌∷◌, length, map, Option, sym, ◌∙◌, subst, arith}
use Rattle.std.specs.List.{AllByRecursion}
use Rattle.ir_core.specs.Depths.{deepest, depth_of, depth_of_constant, depth_of_init}
use Rattle.ir_types.specs.declared.names.Name.{Name}
use Rattle.ir_types.specs.declared.ty.Ty.{Ty, Void}
use Rattle.module_grammar.specs.declared.commas.NextCountText.{NextCountText}
use Rattle.module_grammar.specs.declared.commas.NextCountText.TheVariants as next_count
use Rattle.module_grammar.specs.declared.commas.NextEntryText.{NextEntryText}
use Rattle.module_grammar.specs.declared.commas.NextEntryText.TheVariants as next_entry
use Rattle.module_grammar.specs.declared.commas.NextIndexText.{NextIndexText}
use Rattle.module_grammar.specs.declared.commas.NextIndexText.TheVariants as next_index
use Rattle.module_grammar.specs.declared.constants.ConstText.{ConstText}
use Rattle.module_grammar.specs.declared.constants.ConstText as text
use Rattle.module_grammar.specs.declared.constants.InitText.{InitText}
use Rattle.module_grammar.specs.declared.constants.InitText as held
use Rattle.module_grammar.specs.declared.flow.BehindText.{BehindText}
use Rattle.module_grammar.specs.declared.flow.BehindText.TheVariants as behind_text
use Rattle.module_grammar.specs.declared.functions.NextDeclaredText.{NextDeclaredText}
use Rattle.module_grammar.specs.declared.functions.NextDeclaredText.TheVariants as next_declared
use Rattle.module_grammar.specs.declared.places.Placed.{Placed}
use Rattle.module_grammar.specs.declared.types.NextCalledText.{NextCalledText}
use Rattle.module_grammar.specs.declared.types.NextCalledText.TheVariants as next_called
use Rattle.module_grammar.specs.declared.types.TypeText.{TypeText}
use Rattle.module_grammar.specs.ConstantRules as constant_rules
use Rattle.module_grammar.specs.ItemRules as item_rules
use Rattle.module_grammar.specs.TypeRules as type_rules
use Rattle.module_grammar.specs.Joined.{called_from, count_from, declared_from, entries_from, indices_from, with_register}
use Rattle.module_grammar.specs.Rules.{first_rule, meaning, rules}
use Rattle.module_grammar.specs.Sorts.{sort, vocabulary}
use Rattle.module_grammar.proofs.ConstFolds as const_folds
use Rattle.module_grammar.proofs.InitFolds as init_folds
use Rattle.module_spelling.specs.Opened.{pointers}
use Rattle.named_modules.specs.Constants.{const_of, init_of}
use Rattle.named_modules.specs.Types.{type_of}
use Rattle.predictive.specs.declared.symbol.Symbol.{Symbol}
use Rattle.predictive.specs.declared.symbol.Symbol.TheVariants.{Kind, Non}
use Rattle.predictive.specs.Meaning.{Each, EachOf}
use Rattle.predictive.specs.Typed.{Rule, made, nth}
use Rattle.module_texts.proofs.SpelledLimits.Depths.{of_array, of_array_init, of_bytes, of_cast, of_const, of_element, of_global, of_int, of_named, of_null, of_number, of_struct, of_struct_init, of_undef, of_zero, pair_depth, pairs_depth, part_depth}
use Rattle.module_texts.proofs.SpelledLimits.FitsMade.{UnlessPointers, deeper}
use Rattle.printed_modules.proofs.Deep.{BehindFits, BodyFits, CalledFits, ConstFits, CountFits, DeclaredFits, EntryFits, Fits, InitFits, NextCalledFits, NextCountFits, NextEntryFits, NextFits, NextIndexFits, OperandFits, PairFits, PartFits, TypeFits}

abbrev pub fits_at : (n : ℕ) → ℕ → ℕ → vocabulary.Value n → Type 0
fits_at n d l v = Fits d l (sort n) v

-- each value fits
abbrev pub EachFits : ℕ → ℕ → (s : List Symbol) → Each meaning s → Type 0
EachFits d l [] vs = Unit {0}
EachFits d l (Kind k ∷ s) vs = EachFits d l s vs.1
EachFits d l (Non n ∷ s) vs = fits_at n d l vs.0 × EachFits d l s vs.1

abbrev pub IsSplit : ℕ → Rule vocabulary → Type 0
IsSplit p r =
    (d l : ℕ) (vs : EachOf vocabulary.Content vocabulary.Value r.right) → d ≤ l → fits_at r.left d l (made vocabulary r vs)
    → (deeper p d ≤ l) × EachFits (deeper p d) l r.right vs

abbrev AllFrom : ℕ → List (Rule vocabulary) → Type 0
AllFrom p [] = Unit {0}
AllFrom p (r ∷ rs) = UnlessPointers (nat_eq p pointers) (IsSplit p r) × AllFrom (suc p) rs

-- ---- a constant is as deep at each type

abbrev IsAlike : ConstText → Type 0
IsAlike c = (t u : Ty) → depth_of_constant (const_of c t) ≡ depth_of_constant (const_of c u)

pub const_alike : (c : ConstText) → IsAlike c
const_alike = const_folds.by_parts IsAlike (λ i t u. of_number t i ∙ sym (of_number u i)) (λ at t u. of_null t at ∙ sym (of_null u at)) (λ t u. of_undef t ∙ sym (of_undef u)) (λ g t u. of_global t g ∙ sym (of_global u g)) (λ at inbounds of base_ty base indices _ _ t u. of_element t at inbounds of base_ty base indices ∙ sym (of_element u at inbounds of base_ty base indices)) (λ at from c target _ t u. of_cast t at from c target ∙ sym (of_cast u at from c target))

abbrev IsAlikeInit : InitText → Type 0
IsAlikeInit i = (t u : Ty) → depth_of_init (init_of i t) ≡ depth_of_init (init_of i u)

pub init_alike : (i : InitText) → IsAlikeInit i
init_alike = init_folds.by_parts IsAlikeInit (λ c t u. of_const t c ∙ const_alike c t u ∙ sym (of_const u c)) (λ t u. of_zero t ∙ sym (of_zero u)) (λ bs t u. of_bytes t bs ∙ sym (of_bytes u bs)) (λ at ps _ t u. of_array_init t at ps ∙ sym (of_array_init u at ps)) (λ at ps _ t u. of_struct_init t at ps ∙ sym (of_struct_init u at ps))

-- so it fits at each where it does at one
pub const_fits : (d l : ℕ) (c : ConstText) (t : Ty) → d + depth_of_constant (const_of c t) ≤ l → ConstFits d l c
const_fits d l c t h u = let same = const_alike c t u in omega (arith, h, same)

pub init_fits : (d l : ℕ) (i : InitText) (t : Ty) → d + depth_of_init (init_of i t) ≤ l → InitFits d l i
init_fits d l i t h u = let same = init_alike i t u in omega (arith, h, same)

-- ---- within the deepest

each_within : (d l : ℕ) (ds : List ℕ) → d + deepest ds ≤ l → AllByRecursion (λ n. d + n ≤ l) ds
each_within d l [] h = tt
each_within d l (n ∷ ds) h = (omega (arith, h), each_within d l ds (omega (arith, h)))

types_fit : (d l : ℕ) (ts : List TypeText) → AllByRecursion (λ n. d + n ≤ l) (map depth_of (map type_of ts)) → AllByRecursion (TypeFits d l) ts
types_fit d l [] all = tt
types_fit d l (t ∷ ts) all = (all.0, types_fit d l ts all.1)

pairs_fit : (d l : ℕ) (ps : List (TypeText × ConstText)) → AllByRecursion (λ n. d + n ≤ l) (map pair_depth ps) → AllByRecursion (PairFits d l) ps
pairs_fit d l [] all = tt
pairs_fit d l (p ∷ ps) all =
    let here : d + pair_depth p ≤ l = all.0 in
    ((omega (arith, here), const_fits d l p.1 (type_of p.0) (omega (arith, here))), pairs_fit d l ps all.1)

parts_fit : (d l : ℕ) (ps : List (TypeText × InitText)) → AllByRecursion (λ n. d + n ≤ l) (map part_depth ps) → AllByRecursion (PartFits d l) ps
parts_fit d l [] all = tt
parts_fit d l (p ∷ ps) all =
    let here : d + part_depth p ≤ l = all.0 in
    ((omega (arith, here), init_fits d l p.1 (type_of p.0) (omega (arith, here))), parts_fit d l ps all.1)

-- ---- types

int_type : IsSplit 75 type_rules.int_type
int_type d l vs h f = let one = of_int vs.0 in (omega (arith, f, one), tt)

named_base : IsSplit 76 type_rules.named_base
named_base d l vs h f = let one = of_named vs.0 in (omega (arith, f, one), tt)

array_type : IsSplit 77 type_rules.array_type
array_type d l vs h f =
    let more = of_array vs.0 vs.1.0 vs.1.1.1.0 in
    let inside : suc d + depth_of (type_of vs.1.1.1.0) ≤ l = omega (arith, f, more) in
    (omega (arith, inside), (inside, tt))

fields_fit : (d l : ℕ) (ts : List TypeText) → d + (deepest (map depth_of (map type_of ts)) + 1) ≤ l → (suc d ≤ l) × AllByRecursion (TypeFits (suc d) l) ts
fields_fit d l ts h = (omega (arith, h), types_fit (suc d) l ts (each_within (suc d) l (map depth_of (map type_of ts)) (omega (arith, h))))

struct_type : IsSplit 78 type_rules.struct_type
struct_type d l vs h f =
    let more = of_struct vs.0 vs.1.0 in
    let fields = fields_fit d l vs.1.0 (omega (arith, f, more)) in
    (fields.0, (fields.1, tt))

struct_body : IsSplit 10 item_rules.struct_body
struct_body d l vs h f = let fields = fields_fit d l vs.1.0 f in (fields.0, (fields.1, tt))

stars : IsSplit 80 type_rules.stars
stars d l (at, ([], tt)) h f = (omega (arith, f), (tt, tt))
stars d l (at, (b ∷ more, tt)) h f = let inside : suc d + length (b ∷ more) ≤ l = omega (arith, f) in (omega (arith, inside), (inside, tt))

-- ---- constants

int_const : IsSplit 99 constant_rules.int_const
int_const d l vs h f = let one = of_number Void vs.0 in let here : d + depth_of_constant (const_of (text.Int vs.0) Void) ≤ l = f Void in (omega (arith, here, one), (tt, tt))

null_const : IsSplit 100 constant_rules.null_const
null_const d l vs h f = let one = of_null Void vs.0 in let here : d + depth_of_constant (const_of (text.Null vs.0) Void) ≤ l = f Void in (omega (arith, here, one), tt)

undef_const : IsSplit 101 constant_rules.undef_const
undef_const d l vs h f = let one = of_undef Void in let here : d + depth_of_constant (const_of text.Undef Void) ≤ l = f Void in (omega (arith, here, one), tt)

global_const : IsSplit 102 constant_rules.global_const
global_const d l vs h f = let one = of_global Void vs.0 in let here : d + depth_of_constant (const_of (text.Global vs.0) Void) ≤ l = f Void in (omega (arith, here, one), (tt, tt))

element_const : IsSplit 103 constant_rules.element_const
element_const d l (at, (inbounds, (_, (of, (_, (base_ty, (base, (indices, _)))))))) h f =
    let more = of_element Void at inbounds of base_ty base indices in
    let here : d + depth_of_constant (const_of (text.Element at inbounds (of, base_ty, base, indices)) Void) ≤ l = f Void in
    let first : suc d + depth_of (type_of of) ≤ l = omega (arith, here, more) in
    let inside : suc d + pairs_depth ((base_ty, base) ∷ indices) ≤ l = omega (arith, here, more) in
    let parts = pairs_fit (suc d) l ((base_ty, base) ∷ indices) (each_within (suc d) l (map pair_depth ((base_ty, base) ∷ indices)) inside) in
    (omega (arith, first), (tt, (first, (parts.0.0, (parts.0.1, (parts.1, tt))))))

cast_const : IsSplit 104 constant_rules.cast_const
cast_const d l (at, (_, (from, (c, (_, (target, _)))))) h f =
    let more = of_cast Void at from c target in
    let here : d + depth_of_constant (const_of (text.Cast at (from, c, target)) Void) ≤ l = f Void in
    let last : suc d + depth_of (type_of target) ≤ l = omega (arith, here, more) in
    let inside : suc d + pairs_depth ((from, c) ∷ []) ≤ l = omega (arith, here, more) in
    let parts = pairs_fit (suc d) l ((from, c) ∷ []) (each_within (suc d) l (map pair_depth ((from, c) ∷ [])) inside) in
    (omega (arith, last), (parts.0.0, (parts.0.1, (last, tt))))

-- ---- initialisers

const_init : IsSplit 107 constant_rules.const_init
const_init d l vs h f =
    let same = of_const Void vs.0 in
    let here : d + depth_of_init (init_of (held.Const vs.0) Void) ≤ l = f Void in
    (h, (const_fits d l vs.0 Void (omega (arith, here, same)), tt))

zero_init : IsSplit 108 constant_rules.zero_init
zero_init d l vs h f = let one = of_zero Void in let here : d + depth_of_init (init_of held.Zero Void) ≤ l = f Void in (omega (arith, here, one), tt)

bytes_init : IsSplit 109 constant_rules.bytes_init
bytes_init d l vs h f = let one = of_bytes Void vs.1.0 in let here : d + depth_of_init (init_of (held.Bytes vs.1.0) Void) ≤ l = f Void in (omega (arith, here, one), tt)

array_init : IsSplit 110 constant_rules.array_init
array_init d l vs h f =
    let more = of_array_init Void vs.0 vs.1.0 in
    let here : d + depth_of_init (init_of (held.Array vs.0 vs.1.0) Void) ≤ l = f Void in
    (omega (arith, here, more), (parts_fit (suc d) l vs.1.0 (each_within (suc d) l (map part_depth vs.1.0) (omega (arith, here, more))), tt))

struct_init : IsSplit 111 constant_rules.struct_init
struct_init d l vs h f =
    let more = of_struct_init Void vs.0 vs.1.0 in
    let here : d + depth_of_init (init_of (held.Struct vs.0 vs.1.0) Void) ≤ l = f Void in
    (omega (arith, here, more), (parts_fit (suc d) l vs.1.0 (each_within (suc d) l (map part_depth vs.1.0) (omega (arith, here, more))), tt))

-- ---- what stands behind a comma, and behind a register

next_of : (d l : ℕ) (x : NextDeclaredText) → DeclaredFits d l (declared_from x) → NextFits d l x
next_of d l next_declared.Open f = tt
next_of d l (next_declared.Param p more) f = f

next_called_of : (d l : ℕ) (x : NextCalledText) → CalledFits d l (called_from x) → NextCalledFits d l x
next_called_of d l next_called.Open f = tt
next_called_of d l (next_called.Type t more) f = f

count_of : (d l : ℕ) (x : NextCountText) → CountFits d l (count_from x).count → NextCountFits d l x
count_of d l (next_count.Count c b) f = f
count_of d l (next_count.Other x) f = tt

index_of : (d l : ℕ) (x : NextIndexText) → AllByRecursion (OperandFits d l) (indices_from x).indices → NextIndexFits d l x
index_of d l (next_index.Index o more) f = f
index_of d l (next_index.Attachment first others) f = tt

entry_of : (d l : ℕ) (x : NextEntryText) → AllByRecursion (EntryFits d l) (entries_from x).entries → NextEntryFits d l x
entry_of d l (next_entry.Entry e more) f = f
entry_of d l (next_entry.Attachment first others) f = tt

behind_of : (d l : ℕ) (register : Option (Placed Name)) (x : BehindText) → BodyFits d l (with_register register x) → BehindFits d l x
behind_of d l register (behind_text.Phi node b) f = (f.0.0, (f.0.1, f.1))
behind_of d l register (behind_text.Line attached lines) f = f.1

-- ---- all rules

splitting : AllFrom 0 rules
splitting = ((λ d l vs h f. (h, tt)), ((λ d l vs h f. (h, (f.0, (f.1, tt)))), ((λ d l vs h f. (h, tt)), ((λ d l vs h f. (h, tt)), ((λ d l vs h f. (h, (tt, (tt, tt)))), ((λ d l vs h f. (h, (f.0, (f.1, tt)))), ((λ d l vs h f. (h, (f, tt))), ((λ d l vs h f. (h, (tt, (f, tt)))), ((λ d l vs h f. (h, (tt, (f.0, (tt, (f.1.0, (f.1.1, tt))))))), ((λ d l vs h f. (h, tt)), (struct_body, ((λ d l vs h f. (h, (tt, (f.0, (tt, tt))))), ((λ d l vs h f. (h, (tt, (tt, (f.0, (f.1, (tt, tt))))))), ((λ d l vs h f. (h, tt)), ((λ d l vs h f. (h, tt)), ((λ d l vs h f. (h, tt)), ((λ d l vs h f. (h, tt)), ((λ d l vs h f. (h, (f, (tt, tt)))), ((λ d l vs h f. (h, (tt, tt))), ((λ d l vs h f. (h, tt)), ((λ d l vs h f. (h, (next_of d l vs.0 f, tt))), ((λ d l vs h f. (h, tt)), ((λ d l vs h f. (h, (next_of d l vs.1.0 f, tt))), ((λ d l vs h f. (h, tt)), ((λ d l vs h f. (h, (f.0, (f.1, tt)))), ((λ d l vs h f. (h, (tt, (tt, (f, tt))))), ((λ d l vs h f. (h, tt)), ((λ d l vs h f. (h, tt)), ((λ d l vs h f. (h, tt)), ((λ d l vs h f. (h, (f, tt))), ((λ d l vs h f. (h, (f.0, (tt, (f.1, (tt, tt)))))), ((λ d l vs h f. (h, (tt, (tt, tt)))), ((λ d l vs h f. (h, tt)), ((λ d l vs h f. (h, tt)), ((λ d l vs h f. (h, tt)), ((λ d l vs h f. (h, tt)), ((λ d l vs h f. (h, tt)), ((λ d l vs h f. (h, tt)), ((λ d l vs h f. (h, (f.0, (f.1, tt)))), ((λ d l vs h f. (h, tt)), ((λ d l vs h f. (h, (f.0, (f.1, tt)))), ((λ d l vs h f. (h, (f, (tt, (tt, tt))))), ((λ d l vs h f. (h, tt)), ((λ d l vs h f. (h, tt)), ((λ d l vs h f. (h, tt)), ((λ d l vs h f. (h, (tt, (tt, tt)))), ((λ d l vs h f. (h, tt)), ((λ d l vs h f. (h, tt)), ((λ d l vs h f. (h, tt)), ((λ d l vs h f. (h, tt)), ((λ d l vs h f. (h, tt)), ((λ d l vs h f. (h, tt)), ((λ d l vs h f. (h, (tt, (tt, tt)))), ((λ d l vs h f. (h, tt)), ((λ d l vs h f. (h, (tt, tt))), ((λ d l vs h f. (h, tt)), ((λ d l vs h f. (h, tt)), ((λ d l vs h f. (h, tt)), ((λ d l vs h f. (h, tt)), ((λ d l vs h f. (h, tt)), ((λ d l vs h f. (h, tt)), ((λ d l vs h f. (h, tt)), ((λ d l vs h f. (h, (tt, tt))), ((λ d l vs h f. (h, tt)), ((λ d l vs h f. (h, (tt, (tt, tt)))), ((λ d l vs h f. (h, (tt, tt))), ((λ d l vs h f. (h, (tt, tt))), ((λ d l vs h f. (h, (tt, tt))), ((λ d l vs h f. (h, tt)), ((λ d l vs h f. (h, tt)), ((λ d l vs h f. (h, tt)), ((λ d l vs h f. (h, tt)), ((λ d l vs h f. (h, tt)), ((λ d l vs h f. (h, tt)), (tt, (int_type, (named_base, (array_type, (struct_type, ((λ d l vs h f. (h, tt)), (stars, ((λ d l vs h f. (h, tt)), ((λ d l vs h f. (h, (f.0, (f.1, tt)))), ((λ d l vs h f. (h, tt)), ((λ d l vs h f. (h, (f.0, (f.1, tt)))), ((λ d l vs h f. (h, tt)), ((λ d l vs h f. (h, (next_called_of d l vs.0 f, tt))), ((λ d l vs h f. (h, tt)), ((λ d l vs h f. (h, (next_called_of d l vs.1.0 f, tt))), ((λ d l vs h f. (h, tt)), ((λ d l vs h f. (h, (f.0, (f.1, tt)))), ((λ d l vs h f. (h, tt)), ((λ d l vs h f. (h, (f, tt))), ((λ d l vs h f. (h, tt)), ((λ d l vs h f. (h, tt)), ((λ d l vs h f. (h, tt)), ((λ d l vs h f. (h, tt)), ((λ d l vs h f. (h, tt)), ((λ d l vs h f. (h, tt)), (int_const, (null_const, (undef_const, (global_const, (element_const, (cast_const, ((λ d l vs h f. (h, tt)), ((λ d l vs h f. (h, (f.0.0, (f.0.1, (f.1, tt))))), (const_init, (zero_init, (bytes_init, (array_init, (struct_init, ((λ d l vs h f. (h, tt)), ((λ d l vs h f. (h, (f.0.0, (f.0.1, (f.1, tt))))), ((λ d l vs h f. (h, tt)), ((λ d l vs h f. (h, (f.0.0, (f.0.1, (f.1, tt))))), ((λ d l vs h f. (h, (f, tt))), ((λ d l vs h f. (h, tt)), ((λ d l vs h f. (h, tt)), ((λ d l vs h f. (h, tt)), ((λ d l vs h f. (h, (f.0, (f.1, tt)))), ((λ d l vs h f. (h, (tt, tt))), ((λ d l vs h f. (h, (tt, tt))), ((λ d l vs h f. (h, tt)), ((λ d l vs h f. (h, tt)), ((λ d l vs h f. (h, (tt, tt))), ((λ d l vs h f. (h, tt)), ((λ d l vs h f. (h, tt)), ((λ d l vs h f. (h, (tt, (f.0, (f.1, tt))))), ((λ d l vs h f. (h, (f.0, (f.1, tt)))), ((λ d l vs h f. (h, (f.0, (f.1, tt)))), ((λ d l vs h f. (h, (f.0, (f.1, tt)))), ((λ d l vs h f. (h, (f.0, (f.1, (f.2, tt))))), ((λ d l vs h f. (h, (f, (tt, tt)))), ((λ d l vs h f. (h, (tt, (f.0, (f.1, (f.2, tt)))))), ((λ d l vs h f. (h, (f.0, (f.1, tt)))), ((λ d l vs h f. (h, (f.0, (f.1, (tt, tt))))), ((λ d l vs h f. (h, (f.0, (f.1, (tt, tt))))), ((λ d l vs h f. (h, (f, (tt, tt)))), ((λ d l vs h f. (h, (f, (tt, tt)))), ((λ d l vs h f. (h, tt)), ((λ d l vs h f. (h, (tt, tt))), ((λ d l vs h f. (h, (tt, tt))), ((λ d l vs h f. (h, (tt, (tt, tt)))), ((λ d l vs h f. (h, tt)), ((λ d l vs h f. (h, (count_of d l vs.1.0 f, tt))), ((λ d l vs h f. (h, (f, (tt, (tt, tt))))), ((λ d l vs h f. (h, (tt, tt))), ((λ d l vs h f. (h, tt)), ((λ d l vs h f. (h, (index_of d l vs.1.0 f, tt))), ((λ d l vs h f. (h, (f.0, (f.1, tt)))), ((λ d l vs h f. (h, (tt, (tt, tt)))), ((λ d l vs h f. (h, (tt, (f.0, (f.1, tt))))), ((λ d l vs h f. (h, (tt, (tt, (f.0, (f.1, tt)))))), ((λ d l vs h f. (h, (f.0, (f.1, (tt, (f.2, tt)))))), ((λ d l vs h f. (h, (f, tt))), ((λ d l vs h f. (h, (f.0, (f.1, (tt, tt))))), ((λ d l vs h f. (h, (f, tt))), ((λ d l vs h f. (h, (f, tt))), ((λ d l vs h f. (h, (f, tt))), ((λ d l vs h f. (h, (tt, tt))), ((λ d l vs h f. (h, (f, (tt, tt)))), ((λ d l vs h f. (h, tt)), ((λ d l vs h f. (h, (f.0, (f.1, tt)))), ((λ d l vs h f. (h, tt)), ((λ d l vs h f. (h, (f.0, (f.1, tt)))), ((λ d l vs h f. (h, (f.0, (tt, (f.1, tt))))), ((λ d l vs h f. (h, (tt, (f, tt)))), ((λ d l vs h f. (h, tt)), ((λ d l vs h f. (h, tt)), ((λ d l vs h f. (h, tt)), ((λ d l vs h f. (h, (f.0, (f.1, tt)))), ((λ d l vs h f. (h, (f, tt))), ((λ d l vs h f. (h, (f, tt))), ((λ d l vs h f. (h, (tt, (f.0, (f.1, (f.2, tt)))))), ((λ d l vs h f. (h, (f.0, (f.1, (tt, tt))))), ((λ d l vs h f. (h, tt)), ((λ d l vs h f. (h, (f.0, (f.1, tt)))), ((λ d l vs h f. (h, tt)), ((λ d l vs h f. (h, (tt, (f.0, (f.1, tt))))), ((λ d l vs h f. (h, tt)), ((λ d l vs h f. (h, tt)), ((λ d l vs h f. (h, tt)), ((λ d l vs h f. (h, (f.0, (f.1, tt)))), ((λ d l vs h f. (h, tt)), ((λ d l vs h f. (h, (tt, (behind_of d l vs.0 vs.1.0 f, tt)))), ((λ d l vs h f. (h, (f.0, (f.1, tt)))), ((λ d l vs h f. (h, (f.0, (f.1, tt)))), ((λ d l vs h f. (h, (f.0, (f.1.0, (f.1.1, tt))))), ((λ d l vs h f. (h, tt)), ((λ d l vs h f. (h, (entry_of d l vs.1.0 f, tt))), ((λ d l vs h f. (h, (f.0, (f.1, tt)))), ((λ d l vs h f. (h, (tt, (tt, tt)))), ((λ d l vs h f. (h, (f, tt))), ((λ d l vs h f. (h, (f, (tt, tt)))), ((λ d l vs h f. (h, (f, tt))), ((λ d l vs h f. (h, (f, tt))), ((λ d l vs h f. (h, (f.0, (f.1, tt)))), ((λ d l vs h f. (h, tt)), ((λ d l vs h f. (h, tt)), ((λ d l vs h f. (h, (f, tt))), ((λ d l vs h f. (h, tt)), ((λ d l vs h f. (h, (f, tt))), ((λ d l vs h f. (h, tt)), ((λ d l vs h f. (h, (f.0, (f.1, tt)))), ((λ d l vs h f. (h, (f, (tt, tt)))), tt))))))))))))))))))))))))))))))))))))))))))))))))))))))))))))))))))))))))))))))))))))))))))))))))))))))))))))))))))))))))))))))))))))))))))))))))))))))))))))))))))))))))))))))))))))))))))))))))))))))))))))))

splitting_at : (rs : List (Rule vocabulary)) (i p : ℕ) → AllFrom i rs → p < length rs → UnlessPointers (nat_eq (i + p) pointers) (IsSplit (i + p) (nth first_rule rs p))
splitting_at [] i p all h = absurd (grind arith)
splitting_at (r ∷ rs) i zero all h = let here : i ≡ i + 0 = omega arith in subst (λ j. UnlessPointers (nat_eq j pointers) (IsSplit j r)) here all.0
splitting_at (r ∷ rs) i (suc p) all h =
    let next : suc i + p ≡ i + suc p = omega arith in
    subst (λ j. UnlessPointers (nat_eq j pointers) (IsSplit j (nth first_rule rs p))) next (splitting_at rs (suc i) p all.1 (grind arith))

pub each_splits : (p : ℕ) → p < length rules → UnlessPointers (nat_eq p pointers) (IsSplit p (nth first_rule rules p))
each_splits p h =
    let same : 0 + p ≡ p = omega arith in
    subst (λ j. UnlessPointers (nat_eq j pointers) (IsSplit j (nth first_rule rules p))) same (splitting_at rules 0 p splitting h)
