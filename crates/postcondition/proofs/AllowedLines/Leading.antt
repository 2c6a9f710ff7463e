-- Facts that are between no two operands lead from none to another.
use Rattle.std.proofs.Common.{◌≡◌, ◌∙◌, Bool, true, false, ◌&&◌, ◌||◌, List, [], ◌∷◌, refl, sym, subst}
use Rattle.std.proofs.lemmas.Bool.{false≢true}
use Rattle.std.specs.List.{list_any}
use Rattle.ir_core.specs.declared.operands.Operand.{Operand}
use Rattle.ir_core.specs.declared.expressions.Reg.{Reg}
use Rattle.ir_core.specs.declared.expressions.Expr.TheVariants.{Plain, Binary, Icmp, Cast, Select, Element, Load}
use Rattle.ir_types.specs.Same.{same_name}
use Rattle.ir_core.specs.Same.{same_expr, same_reg}
use Rattle.ir_types.specs.NameLaws.{same_name_refl}
use Rattle.ir_core.proofs.SameLaws.{same_reg_operand_true}
use Rattle.erhl_assert.specs.declared.facts.Fact.{Fact}
use Rattle.erhl_assert.specs.declared.facts.Fact.TheVariants.{LessDef, Unique, Private, NoAlias, Ok}
use Rattle.erhl_assert.specs.Facts.{has_fact}
use Rattle.erhl_assert.specs.Matched.{from_fact, into_fact}
use Rattle.fact_sets.specs.Near.{found_under, is_near, HasAllNear}
use Rattle.fact_sets.proofs.Nearness.{found_near}
use Rattle.fact_sets.specs.ErhlSides.Joining.{joins}

and_false : (b : Bool) → (b && false) ≡ false
and_false true = refl
and_false false = refl

neither : (a b : Bool) → (a || b) ≡ false → (a ≡ false) × (b ≡ false)
neither true b h = absurd (false≢true (sym h))
neither false b h = (refl, h)

both_false : (a b : Bool) → a ≡ false → b ≡ false → (a || b) ≡ false
both_false true b h k = absurd (false≢true (sym h))
both_false false b h k = k

into_none : (p : Operand Reg → Bool) (b : Operand Reg) (f : Fact) → joins f ≡ false → into_fact p b f ≡ false
into_none p b (LessDef (Plain o) (Plain q)) h = absurd (false≢true (sym h))
into_none p b (LessDef (Binary e) (Plain q)) h = and_false (same_expr same_reg (Plain q) (Plain b))
into_none p b (LessDef (Icmp e) (Plain q)) h = and_false (same_expr same_reg (Plain q) (Plain b))
into_none p b (LessDef (Cast e) (Plain q)) h = and_false (same_expr same_reg (Plain q) (Plain b))
into_none p b (LessDef (Select e) (Plain q)) h = and_false (same_expr same_reg (Plain q) (Plain b))
into_none p b (LessDef (Element e) (Plain q)) h = and_false (same_expr same_reg (Plain q) (Plain b))
into_none p b (LessDef (Load e) (Plain q)) h = and_false (same_expr same_reg (Plain q) (Plain b))
into_none p b (LessDef x (Binary e)) h = refl
into_none p b (LessDef x (Icmp e)) h = refl
into_none p b (LessDef x (Cast e)) h = refl
into_none p b (LessDef x (Select e)) h = refl
into_none p b (LessDef x (Element e)) h = refl
into_none p b (LessDef x (Load e)) h = refl
into_none p b (Unique r) h = refl
into_none p b (Private r) h = refl
into_none p b (NoAlias x y) h = refl
into_none p b (Ok e t align) h = refl

from_none : (p : Operand Reg → Bool) (a : Operand Reg) (f : Fact) → joins f ≡ false → from_fact p a f ≡ false
from_none p a (LessDef (Plain o) (Plain q)) h = absurd (false≢true (sym h))
from_none p a (LessDef (Plain o) (Binary e)) h = and_false (same_expr same_reg (Plain o) (Plain a))
from_none p a (LessDef (Plain o) (Icmp e)) h = and_false (same_expr same_reg (Plain o) (Plain a))
from_none p a (LessDef (Plain o) (Cast e)) h = and_false (same_expr same_reg (Plain o) (Plain a))
from_none p a (LessDef (Plain o) (Select e)) h = and_false (same_expr same_reg (Plain o) (Plain a))
from_none p a (LessDef (Plain o) (Element e)) h = and_false (same_expr same_reg (Plain o) (Plain a))
from_none p a (LessDef (Plain o) (Load e)) h = and_false (same_expr same_reg (Plain o) (Plain a))
from_none p a (LessDef (Binary e) y) h = refl
from_none p a (LessDef (Icmp e) y) h = refl
from_none p a (LessDef (Cast e) y) h = refl
from_none p a (LessDef (Select e) y) h = refl
from_none p a (LessDef (Element e) y) h = refl
from_none p a (LessDef (Load e) y) h = refl
from_none p a (Unique r) h = refl
from_none p a (Private r) h = refl
from_none p a (NoAlias x y) h = refl
from_none p a (Ok e t align) h = refl

any_none : (p : Fact → Bool) → ((f : Fact) → joins f ≡ false → p f ≡ false) → (fs : List Fact) → list_any joins fs ≡ false → list_any p fs ≡ false
any_none p none [] h = refl
any_none p none (f ∷ fs) h =
    let two = neither (joins f) (list_any joins fs) h in
    both_false (p f) (list_any p fs) (none f two.0) (any_none p none fs two.1)

pub none_leads_into : (p : Operand Reg → Bool) (b : Operand Reg) (fs : List Fact) → list_any joins fs ≡ false → list_any (into_fact p b) fs ≡ false
none_leads_into p b fs h = any_none (into_fact p b) (into_none p b) fs h

pub none_leads_from : (p : Operand Reg → Bool) (a : Operand Reg) (fs : List Fact) → list_any joins fs ≡ false → list_any (from_fact p a) fs ≡ false
none_leads_from p a fs h = any_none (from_fact p a) (from_none p a) fs h

-- ---- what leads from an operand or into one is near it
both_true : (a b : Bool) → (a && b) ≡ true → (a ≡ true) × (b ≡ true)
both_true true b h = (refl, h)
both_true false b h = absurd (false≢true h)

or_behind : (a b : Bool) → b ≡ true → (a || b) ≡ true
or_behind true b h = refl
or_behind false b h = h

or_before : (a b : Bool) → a ≡ true → (a || b) ≡ true
or_before true b h = refl
or_before false b h = absurd (false≢true h)

-- one operand is found where the other is
found_beside : (a b : Operand Reg) → same_expr same_reg (Plain a) (Plain b) ≡ true → same_name (found_under a.atom) (found_under b.atom) ≡ true
found_beside a b h =
    let one : a ≡ b = same_reg_operand_true a b h in
    subst (λ (o : Operand Reg). same_name (found_under o.atom) (found_under b.atom) ≡ true) (sym one) (same_name_refl (found_under b.atom))

into_near : (p : Operand Reg → Bool) (b : Operand Reg) (f : Fact) → into_fact p b f ≡ true → is_near (found_under b.atom) f ≡ true
into_near p b (LessDef (Plain o) (Plain q)) h =
    or_behind (same_name (found_under o.atom) (found_under b.atom)) (same_name (found_under q.atom) (found_under b.atom))
    (found_beside q b (both_true (same_expr same_reg (Plain q) (Plain b)) (p o) h).0)
into_near p b (LessDef (Binary e) y) h = absurd (false≢true (sym (into_none p b (LessDef (Binary e) y) refl) ∙ h))
into_near p b (LessDef (Icmp e) y) h = absurd (false≢true (sym (into_none p b (LessDef (Icmp e) y) refl) ∙ h))
into_near p b (LessDef (Cast e) y) h = absurd (false≢true (sym (into_none p b (LessDef (Cast e) y) refl) ∙ h))
into_near p b (LessDef (Select e) y) h = absurd (false≢true (sym (into_none p b (LessDef (Select e) y) refl) ∙ h))
into_near p b (LessDef (Element e) y) h = absurd (false≢true (sym (into_none p b (LessDef (Element e) y) refl) ∙ h))
into_near p b (LessDef (Load e) y) h = absurd (false≢true (sym (into_none p b (LessDef (Load e) y) refl) ∙ h))
into_near p b (LessDef (Plain o) (Binary e)) h = absurd (false≢true h)
into_near p b (LessDef (Plain o) (Icmp e)) h = absurd (false≢true h)
into_near p b (LessDef (Plain o) (Cast e)) h = absurd (false≢true h)
into_near p b (LessDef (Plain o) (Select e)) h = absurd (false≢true h)
into_near p b (LessDef (Plain o) (Element e)) h = absurd (false≢true h)
into_near p b (LessDef (Plain o) (Load e)) h = absurd (false≢true h)
into_near p b (Unique r) h = absurd (false≢true h)
into_near p b (Private r) h = absurd (false≢true h)
into_near p b (NoAlias x y) h = absurd (false≢true h)
into_near p b (Ok e t align) h = absurd (false≢true h)

from_near : (p : Operand Reg → Bool) (a : Operand Reg) (f : Fact) → from_fact p a f ≡ true → is_near (found_under a.atom) f ≡ true
from_near p a (LessDef (Plain o) (Plain q)) h =
    or_before (same_name (found_under o.atom) (found_under a.atom)) (same_name (found_under q.atom) (found_under a.atom))
    (found_beside o a (both_true (same_expr same_reg (Plain o) (Plain a)) (p q) h).0)
from_near p a (LessDef (Plain o) (Binary e)) h = absurd (false≢true (sym (from_none p a (LessDef (Plain o) (Binary e)) refl) ∙ h))
from_near p a (LessDef (Plain o) (Icmp e)) h = absurd (false≢true (sym (from_none p a (LessDef (Plain o) (Icmp e)) refl) ∙ h))
from_near p a (LessDef (Plain o) (Cast e)) h = absurd (false≢true (sym (from_none p a (LessDef (Plain o) (Cast e)) refl) ∙ h))
from_near p a (LessDef (Plain o) (Select e)) h = absurd (false≢true (sym (from_none p a (LessDef (Plain o) (Select e)) refl) ∙ h))
from_near p a (LessDef (Plain o) (Element e)) h = absurd (false≢true (sym (from_none p a (LessDef (Plain o) (Element e)) refl) ∙ h))
from_near p a (LessDef (Plain o) (Load e)) h = absurd (false≢true (sym (from_none p a (LessDef (Plain o) (Load e)) refl) ∙ h))
from_near p a (LessDef (Binary e) y) h = absurd (false≢true h)
from_near p a (LessDef (Icmp e) y) h = absurd (false≢true h)
from_near p a (LessDef (Cast e) y) h = absurd (false≢true h)
from_near p a (LessDef (Select e) y) h = absurd (false≢true h)
from_near p a (LessDef (Element e) y) h = absurd (false≢true h)
from_near p a (LessDef (Load e) y) h = absurd (false≢true h)
from_near p a (Unique r) h = absurd (false≢true h)
from_near p a (Private r) h = absurd (false≢true h)
from_near p a (NoAlias x y) h = absurd (false≢true h)
from_near p a (Ok e t align) h = absurd (false≢true h)

pub into_found : (p : Operand Reg → Bool) (b : Operand Reg) (near fs : List Fact) → HasAllNear (found_under b.atom) near fs
    → list_any (λ f. has_fact f fs && into_fact p b f) near ≡ list_any (into_fact p b) fs
into_found p b near fs all = found_near (into_fact p b) (found_under b.atom) (into_near p b) near fs all

pub from_found : (p : Operand Reg → Bool) (a : Operand Reg) (near fs : List Fact) → HasAllNear (found_under a.atom) near fs
    → list_any (λ f. has_fact f fs && from_fact p a f) near ≡ list_any (from_fact p a) fs
from_found p a near fs all = found_near (from_fact p a) (found_under a.atom) (from_near p a) near fs all
