-- Parameters behind a name of debugging are balanced text, of tokens that stand for themselves.
use Rattle.std.proofs.Common.{◌≡◌, ℕ, Bool, true, false, not, ◌&&◌, nat_eq, List, [], ◌∷◌, ◌++◌, map, Option, Some, None, refl, ap, sym, ◌∙◌, append_assoc, subst}
use Rattle.std.specs.List.{AllByRecursion, flat_map}
use Rattle.predictive.specs.Fills.{Fills, FillsFrom}
use Rattle.ir_lexer.specs.declared.token.Number.{Number}
use Rattle.ir_types.specs.declared.names.Name.{Name}
use Rattle.module_grammar.specs.Attributes.{param_attribute}
use Rattle.module_grammar.specs.Balanced.{IsBalanced, nothing, token, parens, brackets, braces, is_plain}
use Rattle.module_grammar.specs.Functions.{declared_params, local, param}
use Rattle.module_grammar.specs.Listed.{behind_comma, further, listed}
use Rattle.module_grammar.specs.Symbols.{Symbol, Local, Numeral, Width, Star, Bracket, Brace, Extension, access_word, align, close_brace, close_bracket, close_paren, comma, dots, foreign, kind_of, open_paren, param_word, sized_word, times}
use Rattle.module_grammar.specs.Texts.{is_balanced}
use Rattle.module_grammar.specs.Types.{open_end, ty, types}
use Rattle.module_grammar.specs.declared.attributes.ParamAttributeText.{ParamAttributeText}
use Rattle.module_grammar.specs.declared.attributes.ParamAttributeText.TheVariants as attribute
use Rattle.module_grammar.specs.declared.functions.DeclaredText.{DeclaredText}
use Rattle.module_grammar.specs.declared.functions.ParamText.{ParamText}
use Rattle.module_grammar.specs.declared.places.Placed.{Placed}
use Rattle.module_grammar.specs.declared.types.TypeText.{TypeText, Int, Named, Ptr, Array, Struct}
use Rattle.module_grammar.proofs.TypeFolds.{at_array, at_int, at_named, at_ptr, at_struct, by_parts}
use Rattle.named_modules.proofs.Lists.{all_append}

-- a token of the grammar, and no gap
abbrev pub is_own : Symbol → Bool
is_own s = not (nat_eq (kind_of s) (kind_of foreign)) && not (is_balanced s)

abbrev pub AreOwn : List Symbol → Type 0
AreOwn = AllByRecursion (λ (s : Symbol). is_own s ≡ true)

pub record IsTidy (ts : List Symbol) : Type 0 where
  pub pairs : IsBalanced ts
  pub own : AreOwn ts

-- ---- rows

pairs_append : (a b : List Symbol) → IsBalanced a → IsBalanced b → IsBalanced (a ++ b)
pairs_append a b nothing second = second
pairs_append a b (token s more plain h) second = token s (more ++ b) plain (pairs_append more b h second)
pairs_append a b (parens inside more g h) second =
    subst IsBalanced (ap (λ l. open_paren ∷ l) (sym (append_assoc inside (close_paren ∷ more) b))) (parens inside (more ++ b) g (pairs_append more b h second))
pairs_append a b (brackets at inside more g h) second =
    subst IsBalanced (ap (λ l. Bracket at ∷ l) (sym (append_assoc inside (close_bracket ∷ more) b))) (brackets at inside (more ++ b) g (pairs_append more b h second))
pairs_append a b (braces at inside more g h) second =
    subst IsBalanced (ap (λ l. Brace at ∷ l) (sym (append_assoc inside (close_brace ∷ more) b))) (braces at inside (more ++ b) g (pairs_append more b h second))

none : IsTidy []
none = record { pairs = nothing; own = tt }

join : (a b : List Symbol) → IsTidy a → IsTidy b → IsTidy (a ++ b)
join a b t u = record { pairs = pairs_append a b t.pairs u.pairs; own = all_append (λ (s : Symbol). is_own s ≡ true) a b t.own u.own }

one : (s : Symbol) (more : List Symbol) → is_plain s ≡ true → is_own s ≡ true → IsTidy more → IsTidy (s ∷ more)
one s more plain own t = record { pairs = token s more plain t.pairs; own = (own, t.own) }

each_join : (rows : List (List Symbol)) → AllByRecursion IsTidy rows → IsTidy (flat_map behind_comma rows)
each_join [] all = none
each_join (r ∷ rs) all = join (comma ∷ r) (further rs) (one comma r refl refl all.0) (each_join rs all.1)

in_list : (rows : List (List Symbol)) → AllByRecursion IsTidy rows → IsTidy (listed rows)
in_list [] all = none
in_list (r ∷ rs) all = join r (further rs) all.0 (each_join rs all.1)

-- ---- types

abbrev TypeIsTidy : TypeText → Type 0
TypeIsTidy t = IsTidy (ty t)

of_int : (width : Placed ℕ) → TypeIsTidy (Int width)
of_int width = subst IsTidy (sym (at_int width)) (one (Width width) [] refl refl none)

of_named : (x : Placed Name) → TypeIsTidy (Named x)
of_named x = subst IsTidy (sym (at_named x)) (one (Local x) [] refl refl none)

of_ptr : (at : ℕ) (t : TypeText) → TypeIsTidy t → TypeIsTidy (Ptr at t)
of_ptr at t h = subst IsTidy (sym (at_ptr at t)) (join (ty t) (Star at ∷ []) h (one (Star at) [] refl refl none))

of_array : (at : ℕ) (count : Placed Number) (t : TypeText) → TypeIsTidy t → TypeIsTidy (Array at (count, t))
of_array at count t h =
    let inside = one (Numeral count) (times ∷ ty t) refl refl (one times (ty t) refl refl h) in
    subst IsTidy (sym (at_array at count t)) (record {
      pairs = brackets at (Numeral count ∷ times ∷ ty t) [] inside.pairs nothing;
      own = (refl, all_append (λ (s : Symbol). is_own s ≡ true) (Numeral count ∷ times ∷ ty t) (close_bracket ∷ []) inside.own (refl, tt));
    })

rows_of : (ts : List TypeText) → AllByRecursion TypeIsTidy ts → AllByRecursion IsTidy (map ty ts)
rows_of [] all = tt
rows_of (t ∷ ts) all = (all.0, rows_of ts all.1)

of_struct : (at : ℕ) (ts : List TypeText) → AllByRecursion TypeIsTidy ts → TypeIsTidy (Struct at ts)
of_struct at ts all =
    let inside = in_list (map ty ts) (rows_of ts all) in
    subst IsTidy (sym (at_struct at ts)) (record {
      pairs = braces at (types ts) [] inside.pairs nothing;
      own = (refl, all_append (λ (s : Symbol). is_own s ≡ true) (types ts) (close_brace ∷ []) inside.own (refl, tt));
    })

of_type : (t : TypeText) → TypeIsTidy t
of_type = by_parts TypeIsTidy of_int of_named of_ptr of_array of_struct

-- ---- parameters

of_attribute : (x : ParamAttributeText) → IsTidy (param_attribute x)
of_attribute (attribute.Extension word) = one (Extension word) [] refl refl none
of_attribute attribute.Word = one param_word [] refl refl none
of_attribute attribute.Access = one access_word [] refl refl none
of_attribute (attribute.Sized n) =
    let inside = one (Numeral n) [] refl refl none in
    let behind : IsTidy (open_paren ∷ Numeral n ∷ close_paren ∷ []) = record { pairs = parens (Numeral n ∷ []) [] inside.pairs nothing; own = (refl, (refl, (refl, tt))) } in
    one sized_word (open_paren ∷ Numeral n ∷ close_paren ∷ []) refl refl behind
of_attribute (attribute.Align n) = one align (Numeral n ∷ []) refl refl (one (Numeral n) [] refl refl none)

of_attributes : (xs : List ParamAttributeText) → IsTidy (flat_map param_attribute xs)
of_attributes [] = none
of_attributes (x ∷ xs) = join (param_attribute x) (flat_map param_attribute xs) (of_attribute x) (of_attributes xs)

of_local : (x : Option (Placed Name)) → IsTidy (local x)
of_local None = none
of_local (Some x) = one (Local x) [] refl refl none

of_param : (p : ParamText) → IsTidy (param p)
of_param p =
    join (ty p.ty) (flat_map param_attribute p.attributes ++ local p.name) (of_type p.ty)
    (join (flat_map param_attribute p.attributes) (local p.name) (of_attributes p.attributes) (of_local p.name))

rows_of_params : (ps : List ParamText) (is_open : Bool) → AllByRecursion IsTidy (map param ps ++ open_end is_open)
rows_of_params [] true = (one dots [] refl refl none, tt)
rows_of_params [] false = tt
rows_of_params (p ∷ ps) is_open = (of_param p, rows_of_params ps is_open)

of_declared : (c : DeclaredText) → IsTidy (declared_params c)
of_declared c = in_list (map param c.params ++ open_end c.is_open) (rows_of_params c.params c.is_open)

-- ---- what is written without gaps is the tokens

no_gap : (a b : Bool) → (not a && not b) ≡ true → b ≡ false
no_gap true b e = cc
no_gap false true e = cc
no_gap false false e = refl

filled : (ws ts : List Symbol) → AreOwn ws → Fills is_balanced IsBalanced ws ts → ts ≡ ws
filled [] ts own fills = fills
filled (w ∷ ws) ts own fills = by (is_balanced w) (no_gap (nat_eq (kind_of w) (kind_of foreign)) (is_balanced w) own.0) fills (λ us more. filled ws us own.1 more)
  where
    by : (b : Bool) → b ≡ false → FillsFrom b IsBalanced w (Fills is_balanced IsBalanced ws) ts → ((us : List Symbol) → Fills is_balanced IsBalanced ws us → us ≡ ws) → ts ≡ w ∷ ws
    by true e from more = cc
    by false e from more = sym from.1 ∙ ap (λ l. w ∷ l) (more from.0 from.2)

pub params_tidy : (c : DeclaredText) (params : List Symbol) → Fills is_balanced IsBalanced (declared_params c) params → IsTidy params
params_tidy c params fills = let t = of_declared c in subst IsTidy (sym (filled (declared_params c) params t.own fills)) t
