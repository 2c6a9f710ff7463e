-- What another rule makes than those that are read, or none.
use Rattle.std.proofs.Common.{◌≡◌, ◌∙◌, ℕ, Bool, true, false, cond, List, [], Option, Some, None, refl, ap, nat_eq}
use Rattle.module_derivations.specs.Ahead.{made_by}
use Rattle.module_derivations.specs.Empty.{no_attached, no_head_end, no_name}
use Rattle.module_derivations.specs.Parts.{Part, if_rule}
use Rattle.module_derivations.specs.declared.rule.TheConstants as rule
use Rattle.module_grammar.specs.Joined.{entries_from}
use Rattle.module_grammar.specs.declared.flow.BehindText.TheVariants as behind_text
use Rattle.module_grammar.specs.declared.flow.TermText.TheVariants as term_text
use Rattle.module_grammar.specs.declared.functions.DeclaredNameText.TheVariants as declared_name
use Rattle.module_grammar.specs.declared.functions.NextDeclaredText.TheVariants as next_declared
use Rattle.module_grammar.specs.declared.functions.DeclaredText.{DeclaredText}
use Rattle.module_grammar.specs.declared.items.TypeBodyText.TheVariants as type_body
use Rattle.module_grammar.specs.declared.places.Placed.{Placed}
use Rattle.module_walk.specs.Items.{with_item}
use Rattle.named_modules.specs.Modules.{type_item}
use Rattle.ir_core.specs.declared.modules.Module.{Module}
use Rattle.ir_types.specs.declared.names.Name.{Name}
use Rattle.module_walk.proofs.Rules.{another}

-- what is said of both, whatever the rule is
pub of_both : {T U : Type 0} (f : T → U) (u : U) (r : Option ℕ) (n : ℕ) (then other : T) → f then ≡ u → f other ≡ u → f (if_rule r n then other) ≡ u
of_both f u None n then other h k = k
of_both f u (Some p) n then other h k = by (nat_eq p n)
  where
    by : (b : Bool) → f (cond b then other) ≡ u
    by true = h
    by false = k

-- ---- blocks

pub no_entries : (r : Option ℕ) (s : List Part) → (r ≡ Some rule.ENTRIES_BEHIND → ⊥) → (made_by r s).entries_behind ≡ record { entries = []; attachments = [] }
no_entries r s h = another r rule.ENTRIES_BEHIND _ _ h

pub no_next_entry : (r : Option ℕ) (s : List Part) → (r ≡ Some rule.ENTRY_NEXT → ⊥) → (entries_from (made_by r s).next_entry).entries ≡ []
no_next_entry r s h = ap (λ e. (entries_from e).entries) (another r rule.ENTRY_NEXT _ _ h) ∙ of_both (λ e. (entries_from e).entries) [] r rule.ENTRY_ATTACHMENT _ _ refl refl

pub no_blocks : (r : Option ℕ) (s : List Part) → (r ≡ Some rule.BLOCKS → ⊥) → (made_by r s).blocks ≡ []
no_blocks r s h = another r rule.BLOCKS _ _ h

pub no_body : (r : Option ℕ) (s : List Part) → (r ≡ Some rule.BODY → ⊥) → (made_by r s).body ≡ record { phis = []; lines = [] }
no_body r s h = another r rule.BODY _ _ h

pub no_behind_register :
    (r : Option ℕ) (s : List Part) → (r ≡ Some rule.BEHIND_PHI → ⊥) → (r ≡ Some rule.BEHIND_LINE → ⊥)
    → (made_by r s).behind_register ≡ behind_text.Line no_attached []
no_behind_register r s h k = another r rule.BEHIND_PHI _ _ h ∙ another r rule.BEHIND_LINE _ _ k

pub no_returned : (r : Option ℕ) (s : List Part) → (r ≡ Some rule.RETURNED → ⊥) → (made_by r s).returned ≡ None
no_returned r s h = of_both (λ x. x) None r rule.RETURNED_VOID _ _ refl (another r rule.RETURNED _ _ h)

pub no_term :
    (r : Option ℕ) (s : List Part) → (r ≡ Some rule.RET → ⊥) → (r ≡ Some rule.BR → ⊥) → (r ≡ Some rule.SWITCH → ⊥)
    → (made_by r s).term ≡ term_text.Unreachable
no_term r s h k l =
    another r rule.RET _ _ h ∙ another r rule.BR _ _ k ∙ another r rule.SWITCH _ _ l
    ∙ of_both (λ x. x) term_text.Unreachable r rule.UNREACHABLE _ _ refl refl

-- ---- heads

pub no_params : (r : Option ℕ) (s : List Part) → (r ≡ Some rule.PARAMS → ⊥) → (made_by r s).params ≡ []
no_params r s h = another r rule.PARAMS _ _ h

pub no_more_params : (r : Option ℕ) (s : List Part) → (r ≡ Some rule.MORE_PARAMS → ⊥) → (made_by r s).more_params ≡ []
no_more_params r s h = another r rule.MORE_PARAMS _ _ h

pub no_more_declared : (r : Option ℕ) (s : List Part) → (r ≡ Some rule.MORE_DECLARED → ⊥) → (made_by r s).more_declared ≡ record { params = []; is_open = false }
no_more_declared r s h = another r rule.MORE_DECLARED _ _ h

pub no_next_declared : (r : Option ℕ) (s : List Part) → (r ≡ Some rule.DECLARED_PARAM → ⊥) → (made_by r s).next_declared ≡ next_declared.Open
no_next_declared r s h = of_both (λ x. x) next_declared.Open r rule.DECLARED_OPEN _ _ refl (another r rule.DECLARED_PARAM _ _ h)

pub no_declared_name :
    (r : Option ℕ) (s : List Part) → (r ≡ Some rule.DECLARED → ⊥) → (r ≡ Some rule.DECLARED_DEBUG → ⊥)
    → (made_by r s).declared_name ≡ declared_name.Debug no_name no_head_end
no_declared_name r s h k = another r rule.DECLARED _ _ h ∙ another r rule.DECLARED_DEBUG _ _ k

-- ---- items

pub no_items : (r : Option ℕ) (s : List Part) → (r ≡ Some rule.ITEMS → ⊥) → (made_by r s).whole ≡ record { items = [] }
no_items r s h = another r rule.ITEMS _ _ h

pub no_type_body : (r : Option ℕ) (s : List Part) → (r ≡ Some rule.STRUCT_BODY → ⊥) → (made_by r s).type_body ≡ type_body.Opaque
no_type_body r s h = of_both (λ x. x) type_body.Opaque r rule.OPAQUE _ _ refl (another r rule.STRUCT_BODY _ _ h)

pub names_no_type : (r : Option ℕ) (s : List Part) → (r ≡ Some rule.NAMED_TYPE → ⊥) → type_item (made_by r s).item ≡ None
names_no_type r s h =
    of_both type_item None r rule.TARGET _ _ refl
    (of_both type_item None r rule.ATTRIBUTES _ _ refl
    (of_both type_item None r rule.METADATA _ _ refl
    (of_both type_item None r rule.DECLARATION _ _ refl
    (ap type_item (another r rule.NAMED_TYPE _ _ h)
    ∙ of_both type_item None r rule.GLOBAL _ _ refl
    (of_both type_item None r rule.DEFINITION _ _ refl refl)))))

pub puts_nothing :
    (r : Option ℕ) (s : List Part) → (r ≡ Some rule.DECLARATION → ⊥) → (r ≡ Some rule.GLOBAL → ⊥) → (r ≡ Some rule.DEFINITION → ⊥)
    → (told : Placed Name → DeclaredText) (m : Module) → with_item told m (made_by r s).item ≡ m
puts_nothing r s h k l told m =
    let put = with_item told m in
    of_both put m r rule.TARGET _ _ refl
    (of_both put m r rule.ATTRIBUTES _ _ refl
    (of_both put m r rule.METADATA _ _ refl
    (ap put (another r rule.DECLARATION _ _ h)
    ∙ of_both put m r rule.NAMED_TYPE _ _ refl
    (ap put (another r rule.GLOBAL _ _ k ∙ another r rule.DEFINITION _ _ l)))))
