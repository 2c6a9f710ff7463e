-- Undef is less defined than each constant that is simple and of its type.
use Rattle.std.proofs.Common.{◌≡◌, ◌∙◌, ℕ, suc, pos, Bool, true, false, cond, List, [], ◌∷◌, Some, refl, sym, subst}
use Rattle.std.specs.Option.{option_map}
use Rattle.ir_types.specs.declared.names.Name.{Name}
use Rattle.ir_types.specs.declared.ty.Ty.{Ty, Ptr as PtrTo}
use Rattle.ir_types.specs.declared.ty.Ty.TheVariants as ty
use Rattle.ir_types.specs.Same.{same_name}
use Rattle.ir_core.specs.declared.modules.GlobalVar.{GlobalVar}
use Rattle.ir_core.specs.declared.operands.Const.TheVariants as constant
use Rattle.ir_core.specs.declared.operands.Atom.{Atom}
use Rattle.ir_core.specs.declared.operands.Atom.TheVariants as atom
use Rattle.ir_core.specs.declared.expressions.Reg.{Reg}
use Rattle.ir_core.specs.declared.values.Kind.{Kind}
use Rattle.ir_core.specs.declared.values.Value.{Value}
use Rattle.ir_core.specs.declared.values.Value.TheVariants.{Ptr, Undef}
use Rattle.ir_core.specs.Types.{is_first_class, is_pointer, is_width, kind_of}
use Rattle.ir_core.specs.Typing.{contents_of, is_due}
use Rattle.ir_values.specs.Constants.{Scope, global_at}
use Rattle.ir_values.specs.Values.{IsLessDefined}
use Rattle.ir_values.proofs.ConstantValues.{due_pointer, pointer_kind}
use Rattle.ir_values.proofs.ConstantWalks.{of_global, of_null, of_undef, worth_global, worth_null, worth_undef}
use Rattle.ir_machine.specs.Registers.{atom_value, constant_at}
use Rattle.erhl_assert.specs.Typed.{atom_fits, has_values}
use Rattle.rule_base.specs.Rows.{is_simple, is_undef}
use Rattle.rule_base.specs.NumberLaws.{number_worth, undef_worth}

pointer_has_values : (t : Ty) → is_pointer t ≡ true → is_first_class t ≡ true
pointer_has_values (ty.Int w) h = refl
pointer_has_values t h = h

-- a global that is there has an address
found_is_there : (x : Name) (globals : List GlobalVar) (place : ℕ) (t : Ty) → is_due (option_map PtrTo (contents_of globals x)) t ≡ true
    → IsLessDefined Undef (global_at place globals x)
found_is_there x [] place t h = absurd (cc)
found_is_there x (g ∷ gs) place t h = at (same_name g.name x) h (λ k. found_is_there x gs (suc place) t k)
  where
    at : (b : Bool) → is_due (option_map PtrTo (cond b (Some g.ty) (contents_of gs x))) t ≡ true
        → (is_due (option_map PtrTo (contents_of gs x)) t ≡ true → IsLessDefined Undef (global_at (suc place) gs x))
        → IsLessDefined Undef (cond b (Ptr place (pos 0)) (global_at (suc place) gs x))
    at true h later = tt
    at false h later = later h

module _ (scope : Scope) (reading : Kind → Reg → Value) where
  -- at a pointer type
  null_below : (t : Ty) → is_pointer t ≡ true → IsLessDefined Undef (constant_at scope t (kind_of t) constant.Null)
  null_below t h = rw (pointer_kind t h, of_null scope t, h, worth_null scope t) tt

  undef_at_pointer : (t : Ty) → is_pointer t ≡ true → constant_at scope t (kind_of t) constant.Undef ≡ Undef
  undef_at_pointer t h = rw (pointer_kind t h, of_undef scope t, pointer_has_values t h, worth_undef scope t) refl

  undef_at_integer : (w : ℕ) → is_width w ≡ true → constant_at scope (ty.Int w) (kind_of (ty.Int w)) constant.Undef ≡ Undef
  undef_at_integer w h = rw (h, undef_worth scope w) refl

  global_below : (t : Ty) (x : Name) → is_due (option_map PtrTo (contents_of scope.globals x)) t ≡ true
      → IsLessDefined Undef (constant_at scope t (kind_of t) (constant.Global x))
  global_below t x h =
      rw (pointer_kind t (due_pointer (contents_of scope.globals x) t h), of_global scope t x, h, worth_global scope t x) (found_is_there x scope.globals 0 t h)

  pub undef_below : (t : Ty) (c : Atom Reg) → is_simple c ≡ true → has_values t ≡ true → atom_fits scope t c ≡ true
      → IsLessDefined Undef (atom_value scope reading t c)
  undef_below (ty.Int w) (atom.Constant (constant.Number n)) p v r = rw (v, number_worth scope w n, r) tt
  undef_below t (atom.Constant (constant.Number n)) p v r = absurd (cc)
  undef_below (ty.Int w) (atom.Constant constant.Undef) p v r = rw (v, undef_worth scope w) tt
  undef_below t (atom.Constant constant.Undef) p v r = rw (undef_at_pointer t v) tt
  undef_below (ty.Int w) (atom.Constant constant.Null) p v r = absurd (cc)
  undef_below t (atom.Constant constant.Null) p v r = null_below t r
  undef_below t (atom.Constant (constant.Global x)) p v r = global_below t x r
  undef_below t (atom.Constant c) p v r = absurd (cc)
  undef_below t (atom.Register s) p v r = absurd (cc)

  pub less_than_simple : (t : Ty) (a c : Atom Reg) → is_undef a ≡ true → is_simple c ≡ true → has_values t ≡ true → atom_fits scope t c ≡ true
      → IsLessDefined (atom_value scope reading t a) (atom_value scope reading t c)
  less_than_simple (ty.Int w) (atom.Constant constant.Undef) c q p v r =
      subst (λ (u : Value). IsLessDefined u (atom_value scope reading (ty.Int w) c)) (sym (undef_at_integer w v)) (undef_below (ty.Int w) c p v r)
  less_than_simple t (atom.Constant constant.Undef) c q p v r =
      subst (λ (u : Value). IsLessDefined u (atom_value scope reading t c)) (sym (undef_at_pointer t v)) (undef_below t c p v r)
  less_than_simple t (atom.Constant a) c q p v r = absurd (cc)
  less_than_simple t (atom.Register s) c q p v r = absurd (cc)
