-- The first function of a name.
use Rattle.std.proofs.Common.{◌≡◌, ◌∙◌, ◌||◌, Bool, true, false, cond, List, [], ◌∷◌, Option, None, Some, refl, ap}
use Rattle.std.specs.List.{list_any}
use Rattle.std.specs.Option.{is_some, option_map}
use Rattle.ir_core.specs.Typing.{Signature}
use Rattle.ir_types.specs.Same.{same_name}
use Rattle.ir_types.specs.declared.names.Name.{Name}
use Rattle.ir_typing.specs.OperandTests.Calls as beside
use Rattle.named_modules.specs.Faults.{Heads, is_function, signature_in}

pub same_signature : (ss : List (Name × Signature)) (x : Name) → beside.signature_in ss x ≡ signature_in ss x
same_signature [] x = refl
same_signature (s ∷ ss) x = ap (cond (same_name s.0 x) (Some s.1)) (same_signature ss x)

found : (ss : List (Name × Signature)) (x : Name) → is_some (signature_in ss x) ≡ list_any (λ (s : Name × Signature). same_name s.0 x) ss
found [] x = refl
found (s ∷ ss) x = by (same_name s.0 x) (found ss x)
  where
    by : (b : Bool) → is_some (signature_in ss x) ≡ list_any (λ (s : Name × Signature). same_name s.0 x) ss
        → is_some (cond b (Some s.1) (signature_in ss x)) ≡ (b || list_any (λ (s : Name × Signature). same_name s.0 x) ss)
    by true more = refl
    by false more = more

is_there : {A B : Type 0} (f : A → B) (o : Option A) → is_some o ≡ is_some (option_map f o)
is_there f None = refl
is_there f (Some x) = refl

pub is_called : {A : Type 0} (f : A → Signature) (h : Heads) (x : Name) (o : Option A) → option_map f o ≡ signature_in h.signatures x → is_some o ≡ is_function h x
is_called f h x o e = is_there f o ∙ ap is_some e ∙ found h.signatures x
