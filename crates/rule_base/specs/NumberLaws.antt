-- What numbers and undef are worth at a type, whatever the module is, and that no address comes of a number.
use Rattle.std.proofs.Common.{◌≡◌, ◌∙◌, ℕ, Bool, true, false, ◌&&◌, cond, map, None, Some, refl, sym, ap, subst}
use Rattle.ir_types.specs.declared.ty.Ty.{Ty, Ptr}
use Rattle.ir_types.specs.declared.ty.Ty.TheVariants as ty
use Rattle.ir_types.specs.Same.{same_ty}
use Rattle.ir_types.proofs.SameLaws.{same_ty_true}
use Rattle.ir_core.specs.declared.values.Value.{Value}
use Rattle.ir_core.specs.declared.values.Value.TheVariants.{Num, Undef, Poison}
use Rattle.ir_core.specs.declared.values.Kind.{Kind}
use Rattle.ir_core.specs.declared.values.Kind.TheVariants as kind
use Rattle.ir_core.specs.declared.operands.Const.TheVariants as constant
use Rattle.ir_core.specs.declared.operands.Atom.{Atom}
use Rattle.ir_core.specs.declared.operands.Atom.TheVariants as atom
use Rattle.ir_core.specs.declared.expressions.Element.{Element as ElementOf}
use Rattle.ir_core.specs.declared.expressions.Expr.TheVariants.{Element}
use Rattle.ir_core.specs.declared.expressions.Reg.{Reg}
use Rattle.ir_core.specs.Types.{fits, is_pointer, is_width, kind_of}
use Rattle.ir_core.specs.Typing.{element_type, index_of, is_due}
use Rattle.ir_values.specs.declared.operations.Outcome.TheVariants.{Gives}
use Rattle.ir_values.specs.Constants.{Scope, constant_value}
use Rattle.ir_values.proofs.ConstantValues.{is_pointer_to, no_pointer_int, pointer_kind}
use Rattle.ir_values.proofs.ConstantWalks.{of_number, of_undef, worth_number, worth_undef}
use Rattle.block_memory.specs.Memory.{Memory}
use Rattle.ir_machine.specs.Registers.{atom_value, constant_at, element_from, operand_value, outcome}
use Rattle.ir_machine.specs.State.{no_scope}
use Rattle.rule_base.specs.Rows.{is_number, number_of_kind}

-- a number where there is no scope for it: at a type that is no integer's
elsewhere : (scope : Scope) (t : Ty) (n : ℕ) → is_pointer t ≡ true → constant_value scope t (constant.Number n) ≡ Poison
elsewhere scope (ty.Int w) n h = cc (no_pointer_int w)
elsewhere scope t n h = rw (of_number scope t n) refl

module _ (scope : Scope) where
  pub number_worth : (w n : ℕ) → constant_value scope (ty.Int w) (constant.Number n) ≡ cond (fits n w) (Num n) Poison
  number_worth w n = rw (of_number scope (ty.Int w) n, worth_number scope (ty.Int w) n) refl

  pub undef_worth : (w : ℕ) → constant_value scope (ty.Int w) constant.Undef ≡ Undef
  undef_worth w = rw (of_undef scope (ty.Int w), worth_undef scope (ty.Int w)) refl

  pub number_is_worth : (t : Ty) (n : ℕ) → constant_at scope t (kind_of t) (constant.Number n) ≡ number_of_kind (kind_of t) n
  number_is_worth (ty.Int w) n = at (is_width w)
    where
      at : (b : Bool) → constant_at scope (ty.Int w) (cond b (Some (kind.Int w)) None) (constant.Number n) ≡ number_of_kind (cond b (Some (kind.Int w)) None) n
      at true = number_worth w n
      at false = refl
  number_is_worth t n = at (is_pointer t) refl
    where
      at : (b : Bool) → is_pointer t ≡ b → constant_at scope t (cond b (Some kind.Ptr) None) (constant.Number n) ≡ number_of_kind (cond b (Some kind.Ptr) None) n
      at true e = elsewhere scope t n e
      at false e = refl

module _ (scope : Scope) (reading : Kind → Reg → Value) where
  -- a number reads no register
  pub atom_is_worth : (t : Ty) (a : Atom Reg) → is_number a ≡ true → atom_value scope reading t a ≡ atom_value no_scope (λ k r. Poison) t a
  atom_is_worth t (atom.Constant (constant.Number n)) h = number_is_worth scope t n ∙ sym (number_is_worth no_scope t n)
  atom_is_worth t (atom.Constant c) h = absurd (cc)
  atom_is_worth t (atom.Register r) h = absurd (cc)

  -- and is no address, so none comes of it
  number_at_pointer : (t : Ty) (a : Atom Reg) → is_pointer t ≡ true → is_number a ≡ true → atom_value scope reading t a ≡ Poison
  number_at_pointer t (atom.Constant (constant.Number n)) p h = number_is_worth scope t n ∙ ap (λ k. number_of_kind k n) (pointer_kind t p)
  number_at_pointer t (atom.Constant c) p h = absurd (cc)
  number_at_pointer t (atom.Register r) p h = absurd (cc)

  pub no_element : (memory : Memory) (e : ElementOf Reg) → is_number e.base.atom ≡ true → outcome scope reading memory (Element e) ≡ Gives Poison
  no_element memory e h = at (same_ty e.base.ty (Ptr e.of)) refl
    where
      due : Bool
      due = is_due (element_type scope.types e.of (map index_of e.indices)) e.to

      poison_both : (b : Bool) → cond b (element_from scope reading memory e Poison) (Gives Poison) ≡ Gives Poison
      poison_both true = refl
      poison_both false = refl

      at : (b : Bool) → same_ty e.base.ty (Ptr e.of) ≡ b → cond (b && due) (element_from scope reading memory e (operand_value scope reading e.base)) (Gives Poison) ≡ Gives Poison
      at true is =
          let pointer : is_pointer e.base.ty ≡ true = subst (λ t. is_pointer t ≡ true) (sym (same_ty_true e.base.ty (Ptr e.of) is)) (is_pointer_to e.of) in
          ap (λ v. cond due (element_from scope reading memory e v) (Gives Poison)) (number_at_pointer e.base.ty e.base.atom pointer h) ∙ poison_both due
      at false is = refl
