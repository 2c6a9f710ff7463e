-- Which tokens don't stand in types and in parameters: no opening parenthesis in types, and global names, `unnamed_addr` and text that isn't kept in neither.
use Rattle.std.proofs.Common.{◌≡◌, ℕ, Bool, true, false, nat_eq, List, [], ◌∷◌, ◌++◌, map, Option, Some, None, refl, ap, sym, ◌∙◌, subst, ◌||◌}
use Rattle.std.specs.List.{AllByRecursion, flat_map}
use Rattle.predictive.specs.Fills.{Fills, FillsFrom}
use Rattle.ir_lexer.specs.declared.token.Number.{Number}
use Rattle.ir_types.specs.declared.names.Name.{Name}
use Rattle.module_grammar.proofs.TypeFolds.{at_array, at_int, at_named, at_ptr, at_struct, by_parts}
use Rattle.module_grammar.specs.Attributes.{param_attribute}
use Rattle.module_grammar.specs.Balanced.{IsBalanced}
use Rattle.module_grammar.specs.Functions.{declared_params, local, param}
use Rattle.module_grammar.specs.Listed.{further, listed}
use Rattle.module_grammar.specs.Sorts.{Called, DeclaredParams}
use Rattle.module_grammar.specs.Symbols.{Symbol, Star, close_brace, close_bracket, comma, kind_of, open_paren, unnamed_addr}
use Rattle.module_grammar.specs.Texts.{IsWritten, is_balanced}
use Rattle.module_grammar.specs.Types.{called, open_end, ty, types}
use Rattle.module_grammar.specs.declared.attributes.ParamAttributeText.{ParamAttributeText}
use Rattle.module_grammar.specs.declared.attributes.ParamAttributeText.TheVariants as of_param
use Rattle.module_grammar.specs.declared.functions.DeclaredText.{DeclaredText}
use Rattle.module_grammar.specs.declared.functions.ParamText.{ParamText}
use Rattle.module_grammar.specs.declared.places.Placed.{Placed}
use Rattle.module_grammar.specs.declared.types.CalledText.{CalledText}
use Rattle.module_grammar.specs.declared.types.TypeText.{TypeText, Array, Int, Named, Ptr, Struct}
use Rattle.module_texts.proofs.Lists.{all_joined, all_mapped}

-- a token that may be none of the grammar where it stands: a global name, or `unnamed_addr`
abbrev pub may_change : Symbol → Bool
may_change s = nat_eq (kind_of s) 1 || nat_eq (kind_of s) (kind_of unnamed_addr)

-- it is no text that isn't kept, and no such token
abbrev pub InParams : Symbol → Type 0
InParams s = (is_balanced s ≡ false) × (may_change s ≡ false)

-- nor is it an opening parenthesis
abbrev pub InTypes : Symbol → Type 0
InTypes s = InParams s × (nat_eq (kind_of s) (kind_of open_paren) ≡ false)

pub no_paren : InTypes open_paren → ⊥
no_paren is = let clash : true ≡ false = is.1 in cc

pub no_addr : InParams unnamed_addr → ⊥
no_addr is = let clash : true ≡ false = is.1 in cc

-- ---- lists with commas

module _ (P : Symbol → Type 0) (comma_is : P comma) where
  further_all : (items : List (List Symbol)) → AllByRecursion (AllByRecursion P) items → AllByRecursion P (further items)
  further_all [] h = tt
  further_all (item ∷ items) h = (comma_is, all_joined P item (further items) h.0 (further_all items h.1))

  pub listed_all : (items : List (List Symbol)) → AllByRecursion (AllByRecursion P) items → AllByRecursion P (listed items)
  listed_all [] h = tt
  listed_all (item ∷ items) h = all_joined P item (further items) h.0 (further_all items h.1)

map_all : {X Y : Type 0} (P : X → Type 0) (Q : Y → Type 0) (f : X → Y) → ((x : X) → P x → Q (f x)) → (xs : List X) → AllByRecursion P xs → AllByRecursion Q (map f xs)
map_all P Q f of [] h = tt
map_all P Q f of (x ∷ xs) h = (of x h.0, map_all P Q f of xs h.1)

for_all : {X : Type 0} (P : X → Type 0) → ((x : X) → P x) → (xs : List X) → AllByRecursion P xs
for_all P each [] = tt
for_all P each (x ∷ xs) = (each x, for_all P each xs)

-- ---- types

abbrev IsOfTypes : TypeText → Type 0
IsOfTypes t = AllByRecursion InTypes (ty t)

types_all : (ts : List TypeText) → AllByRecursion IsOfTypes ts → AllByRecursion InTypes (types ts)
types_all ts h = listed_all InTypes ((refl, refl), refl) (map ty ts) (map_all IsOfTypes (AllByRecursion InTypes) ty (λ t is. is) ts h)

int_type : (width : Placed ℕ) → IsOfTypes (Int width)
int_type width = subst (AllByRecursion InTypes) (sym (at_int width)) (((refl, refl), refl), tt)

named_type : (name : Placed Name) → IsOfTypes (Named name)
named_type name = subst (AllByRecursion InTypes) (sym (at_named name)) (((refl, refl), refl), tt)

pointer_type : (at : ℕ) (t : TypeText) → IsOfTypes t → IsOfTypes (Ptr at t)
pointer_type at t h =
    subst (AllByRecursion InTypes) (sym (at_ptr at t)) (all_joined InTypes (ty t) (Star at ∷ []) h (((refl, refl), refl), tt))

array_type : (at : ℕ) (count : Placed Number) (t : TypeText) → IsOfTypes t → IsOfTypes (Array at (count, t))
array_type at count t h =
    subst (AllByRecursion InTypes) (sym (at_array at count t))
    (((refl, refl), refl), (((refl, refl), refl), (((refl, refl), refl), all_joined InTypes (ty t) (close_bracket ∷ []) h (((refl, refl), refl), tt))))

struct_type : (at : ℕ) (ts : List TypeText) → AllByRecursion IsOfTypes ts → IsOfTypes (Struct at ts)
struct_type at ts h =
    subst (AllByRecursion InTypes) (sym (at_struct at ts))
    (((refl, refl), refl), all_joined InTypes (types ts) (close_brace ∷ []) (types_all ts h) (((refl, refl), refl), tt))

of_type : (t : TypeText) → IsOfTypes t
of_type = by_parts IsOfTypes int_type named_type pointer_type array_type struct_type

open_all : (is_open : Bool) → AllByRecursion (AllByRecursion InTypes) (open_end is_open)
open_all true = ((((refl, refl), refl), tt), tt)
open_all false = tt

pub of_called : (c : CalledText) → AllByRecursion InTypes (called c)
of_called c =
    listed_all InTypes ((refl, refl), refl) (map ty c.types ++ open_end c.is_open)
    (all_joined (AllByRecursion InTypes) (map ty c.types) (open_end c.is_open)
    (map_all IsOfTypes (AllByRecursion InTypes) ty (λ t is. is) c.types (for_all IsOfTypes of_type c.types)) (open_all c.is_open))

-- ---- parameters

attribute_all : (a : ParamAttributeText) → AllByRecursion InParams (param_attribute a)
attribute_all (of_param.Extension word) = ((refl, refl), tt)
attribute_all of_param.Word = ((refl, refl), tt)
attribute_all of_param.Access = ((refl, refl), tt)
attribute_all (of_param.Sized n) = ((refl, refl), ((refl, refl), ((refl, refl), ((refl, refl), tt))))
attribute_all (of_param.Align n) = ((refl, refl), ((refl, refl), tt))

attributes_all : (xs : List ParamAttributeText) → AllByRecursion InParams (flat_map param_attribute xs)
attributes_all [] = tt
attributes_all (x ∷ xs) = all_joined InParams (param_attribute x) (flat_map param_attribute xs) (attribute_all x) (attributes_all xs)

local_all : (x : Option (Placed Name)) → AllByRecursion InParams (local x)
local_all None = tt
local_all (Some x) = ((refl, refl), tt)

weaker : (ss : List Symbol) → AllByRecursion InTypes ss → AllByRecursion InParams ss
weaker = all_mapped InTypes InParams (λ s is. is.0)

param_all : (p : ParamText) → AllByRecursion InParams (param p)
param_all p =
    all_joined InParams (ty p.ty) (flat_map param_attribute p.attributes ++ local p.name) (weaker (ty p.ty) (of_type p.ty))
    (all_joined InParams (flat_map param_attribute p.attributes) (local p.name) (attributes_all p.attributes) (local_all p.name))

open_params : (is_open : Bool) → AllByRecursion (AllByRecursion InParams) (open_end is_open)
open_params true = (((refl, refl), tt), tt)
open_params false = tt

pub of_declared : (d : DeclaredText) → AllByRecursion InParams (declared_params d)
of_declared d =
    listed_all InParams (refl, refl) (map param d.params ++ open_end d.is_open)
    (all_joined (AllByRecursion InParams) (map param d.params) (open_end d.is_open)
    (map_all (λ (p : ParamText). AllByRecursion InParams (param p)) (AllByRecursion InParams) param (λ p is. is) d.params (for_all (λ (p : ParamText). AllByRecursion InParams (param p)) param_all d.params))
    (open_params d.is_open))

-- ---- tokens

-- where no text is left out, the tokens are what is written
from_plain : (b : Bool) (w : Symbol) (More : List Symbol → Type 0) (ws ts : List Symbol) → b ≡ false → ((us : List Symbol) → More us → us ≡ ws) → FillsFrom b IsBalanced w More ts → ts ≡ w ∷ ws
from_plain true w More ws ts e rest fills = cc
from_plain false w More ws ts e rest fills = sym fills.1 ∙ ap (λ l. w ∷ l) (rest fills.0 fills.2)

plainly : (ws ts : List Symbol) → AllByRecursion (λ s. is_balanced s ≡ false) ws → Fills is_balanced IsBalanced ws ts → ts ≡ ws
plainly [] ts h fills = fills
plainly (w ∷ ws) ts h fills =
    from_plain (is_balanced w) w (Fills is_balanced IsBalanced ws) ws ts h.0 (λ us more. plainly ws us h.1 more) fills

pub called_tokens : (c : CalledText) (tokens : List Symbol) → IsWritten Called c tokens → AllByRecursion InTypes tokens
called_tokens c tokens is =
    subst (AllByRecursion InTypes) (sym (plainly (called c) tokens (all_mapped InTypes (λ s. is_balanced s ≡ false) (λ s is. is.0.0) (called c) (of_called c)) is)) (of_called c)

pub declared_tokens : (d : DeclaredText) (tokens : List Symbol) → IsWritten DeclaredParams d tokens → AllByRecursion InParams tokens
declared_tokens d tokens is =
    subst (AllByRecursion InParams) (sym (plainly (declared_params d) tokens (all_mapped InParams (λ s. is_balanced s ≡ false) (λ s is. is.0) (declared_params d) (of_declared d)) is)) (of_declared d)
