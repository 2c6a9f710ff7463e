-- Calls are at fault exactly where they name nothing.
use Rattle.std.proofs.Common.{◌≡◌, ◌∙◌, Bool, true, false, cond, List, [], ◌∷◌, ◌++◌, map, Option, Some, None, refl, sym, ap, subst}
use Rattle.std.specs.Prelude.{not, is_some}
use Rattle.std.specs.List.{AllByRecursion, AllZip, flat_map}
use Rattle.std.proofs.lemmas.Bool.{and_from, and_parts}
use Rattle.ir_core.specs.declared.functions.Call.{Call}
use Rattle.ir_core.specs.declared.modules.Module.{Module}
use Rattle.ir_core.specs.Typing.{Signature, contents_of, signatures_of}
use Rattle.ir_types.specs.declared.names.Name.{Name}
use Rattle.ir_types.specs.declared.ty.Ty.{Ty}
use Rattle.ir_types.specs.NameLaws.{same_list_refl, same_list_true}
use Rattle.ir_types.specs.Same.{same_list, same_name, same_ty}
use Rattle.ir_types.proofs.SameLaws.{same_ty_refl, same_ty_true}
use Rattle.name_claims.specs.declared.claims.Reason.TheVariants as reason
use Rattle.module_grammar.specs.declared.attributes.ParamAttributeText.{ParamAttributeText}
use Rattle.module_grammar.specs.declared.lines.ArgumentText.{ArgumentText}
use Rattle.module_grammar.specs.declared.lines.CallEndText.{CallEndText}
use Rattle.module_grammar.specs.declared.places.Placed.{Placed}
use Rattle.module_grammar.specs.declared.types.CalledText.{CalledText}
use Rattle.module_grammar.specs.declared.types.TypeText.{TypeText}
use Rattle.named_modules.specs.Built.{argument_of, result_of}
use Rattle.named_modules.specs.Faults.{Things, argument_faults, at, called_faults, callee_faults, heads_of, is_called, result_faults, signature_in, stated_faults, type_faults, unless}
use Rattle.named_modules.specs.Lines.{IsArgument, IsResult, MayBeCalled, NamesCall}
use Rattle.named_modules.specs.Types.{is_type, type_of}
use Rattle.named_modules.specs.Values.{IsType, Registers, extensions_of}
use Rattle.named_modules.proofs.Lists.{AreDistinct, look, look_finds, look_there, names_of_pairs}
use Rattle.named_modules.proofs.Ties.{Ties, both, each, each_built, fits, never, none, through}
use Rattle.named_modules.proofs.TypeTies.{type_ties}
use Rattle.named_modules.proofs.ValueTies.{Matches, operand_ties, value_type_at_ties}

-- ---- results

pub result_ties : (m : Module) (w : Option TypeText) → Ties (result_faults (heads_of m) w) (IsResult m w (result_of w))
result_ties m None = none refl
result_ties m (Some w) = value_type_at_ties m w

-- ---- the function that is called

look_is : (ss : List (Name × Signature)) (x : Name) → signature_in ss x ≡ look ss x
look_is [] x = refl
look_is (s ∷ ss) x = ap (λ o. cond (same_name s.0 x) (Some s.1) o) (look_is ss x)

-- the types that are stated are types
abbrev AreStated : Module → Option CalledText → Type 0
AreStated m None = Unit {0}
AreStated m (Some c) = AllByRecursion (λ w. is_type m w ≡ true) c.types

stated_ties : (m : Module) (c : Option CalledText) → Ties (stated_faults (heads_of m) c) (AreStated m c)
stated_ties m None = none tt
stated_ties m (Some c) = each (type_faults (heads_of m)) (λ w. is_type m w ≡ true) (type_ties m) c.types

types_zip : (m : Module) (ws : List TypeText) → AllByRecursion (λ w. is_type m w ≡ true) ws → AllZip (IsType m) ws (map type_of ws)
types_zip m [] all = tt
types_zip m (w ∷ ws) all = ((refl, all.0), types_zip m ws all.1)

zip_types : (m : Module) (ws : List TypeText) (ts : List Ty) → AllZip (IsType m) ws ts → AllByRecursion (λ w. is_type m w ≡ true) ws × (ts ≡ map type_of ws)
zip_types m [] [] zip = (tt, refl)
zip_types m [] (t ∷ ts) zip = absurd zip
zip_types m (w ∷ ws) [] zip = absurd zip
zip_types m (w ∷ ws) (t ∷ ts) zip =
    let rest = zip_types m ws ts zip.1 in
    ((zip.0.1, rest.0), ap (λ u. u ∷ ts) zip.0.0 ∙ ap (λ us. type_of w ∷ us) rest.1)

open_same : (v b : Bool) → cond v b (not b) ≡ true → b ≡ v
open_same true b e = e
open_same false true e = cc
open_same false false e = refl

same_open : (v b : Bool) → b ≡ v → cond v b (not b) ≡ true
same_open true b e = e
same_open false b e = ap not e

not_open : (b : Bool) → not b ≡ true → b ≡ false
not_open true e = cc
not_open false e = refl

may_be_called : (m : Module) (s : Signature) (c : Option CalledText) → AreStated m c → is_called s c ≡ true → MayBeCalled m s c
may_be_called m s None are e = not_open s.variadic e
may_be_called m s (Some c) are e =
    let parts = and_parts (same_list same_ty s.params (map type_of c.types)) (cond s.variadic c.is_open (not c.is_open)) e in
    let same = same_list_true same_ty same_ty_true s.params (map type_of c.types) parts.0 in
    (subst (AllZip (IsType m) c.types) (sym same) (types_zip m c.types are), open_same s.variadic c.is_open parts.1)

are_stated : (m : Module) (s : Signature) (c : Option CalledText) → MayBeCalled m s c → AreStated m c
are_stated m s None may = tt
are_stated m s (Some c) may = (zip_types m c.types s.params may.0).0

called_so : (m : Module) (s : Signature) (c : Option CalledText) → MayBeCalled m s c → is_called s c ≡ true
called_so m s None may = ap not may
called_so m s (Some c) may =
    let same = (zip_types m c.types s.params may.0).1 in
    and_from (same_list same_ty s.params (map type_of c.types)) (cond s.variadic c.is_open (not c.is_open))
    (ap (λ ts. same_list same_ty ts (map type_of c.types)) same ∙ same_list_refl same_ty same_ty_refl (map type_of c.types))
    (same_open s.variadic c.is_open may.1)

-- the first function of that name, if it is called as it is
abbrev IsCallee : Option CalledText → Option Signature → Type 0
IsCallee c o = (s : Signature) × (o ≡ Some s) × (is_called s c ≡ true)

signature_same : (s t : Signature) → Some s ≡ Some t → s ≡ t
signature_same s t e = cc

callee_ties : (m : Module) (x : Placed Name) (c : Option CalledText) (o : Option Signature) → Ties (callee_faults (heads_of m) x c o) (IsCallee c o)
callee_ties m x c None = never (at x (cond (is_some (contents_of m.globals x.what)) reason.WrongType reason.Unknown)) [] (λ h. let e = h.1 in cc)
callee_ties m x c (Some s) =
    let f = at x reason.WrongType in
    through (unless (is_called s c) f) (fits (is_called s c) f) (λ h. (s, refl, h)) (λ h. subst (λ t. is_called t c ≡ true) (sym (signature_same s h.0 h.1)) h.2)

-- ---- a call

-- the call of a function of that name, whatever sets its register
abbrev pub call_to : Option Name → List ParamAttributeText → Option TypeText → Placed Name → CallEndText → Call
call_to name attributes of x end = record {
  name = name;
  result = result_of of;
  result_extensions = extensions_of attributes;
  callee = x.what;
  arguments = map argument_of end.arguments;
}

module _ (m : Module) (ts : Things) (rs : Registers) (labels : List Name) (matches : Matches ts rs labels) (distinct : AreDistinct (names_of_pairs (signatures_of m))) where
  argument_ties : (w : ArgumentText) → Ties (argument_faults (heads_of m) ts w) (IsArgument m rs w (argument_of w))
  argument_ties w = through (argument_faults (heads_of m) ts w) (operand_ties m ts rs labels matches (record { ty = w.ty; value = w.value })) (λ h. (h, refl)) (λ h. h.0)

  pub called_ties : (name : Option Name) (attributes : List ParamAttributeText) (of : Option TypeText) (c : Option CalledText) (x : Placed Name) (end : CallEndText) → Ties (called_faults (heads_of m) ts of c x end) (NamesCall m rs attributes of c x end (call_to name attributes of x end))
  called_ties name attributes of c x end =
      let result = result_faults (heads_of m) of in
      let stated = stated_faults (heads_of m) c in
      let o = signature_in (signatures_of m) x.what in
      let callee = callee_faults (heads_of m) x c o in
      let arguments = flat_map (argument_faults (heads_of m) ts) end.arguments in
      through (result ++ (stated ++ (callee ++ arguments)))
      (both result (stated ++ (callee ++ arguments)) (result_ties m of) (both stated (callee ++ arguments) (stated_ties m c) (both callee arguments (callee_ties m x c o) (each_built (argument_faults (heads_of m) ts) (IsArgument m rs) argument_of argument_ties end.arguments))))
      (λ h.
      let s : Signature = h.1.1.0.0 in
      let is : o ≡ Some s = h.1.1.0.1 in
      record {
        extensions = refl;
        result = h.0;
        callee = refl;
        signature = s;
        known = look_there (signatures_of m) x.what s (sym (look_is (signatures_of m) x.what) ∙ is);
        called = may_be_called m s c h.1.0 h.1.1.0.2;
        arguments = h.1.1.1;
      })
      (λ n. (
        n.result,
        (
          are_stated m n.signature c n.called,
          (
            (n.signature, look_is (signatures_of m) x.what ∙ look_finds (signatures_of m) x.what n.signature distinct n.known, called_so m n.signature c n.called),
            n.arguments,
          ),
        ),
      ))
