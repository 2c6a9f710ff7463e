-- Which constants are numbers.
use Rattle.std.proofs.Common.{◌≡◌, ℕ, Bool, List, Option, None, ap}
use Rattle.ir_types.specs.declared.ty.Ty.{Ty}
use Rattle.module_grammar.specs.declared.constants.ConstText.{ConstText, Int, Null, Undef, Global, Element, Cast}
use Rattle.module_grammar.specs.declared.constants.ConstText.TheOpen.{ConstText-F}
use Rattle.module_grammar.specs.declared.constants.ConstText.TheViews.{outs-Int, outs-Null, outs-Undef, outs-Global, outs-Element, outs-Cast}
use Rattle.module_grammar.specs.declared.constants.GlobalNameText.{GlobalNameText}
use Rattle.module_grammar.specs.declared.constants.IntText.{IntText}
use Rattle.module_grammar.specs.declared.types.TypeText.{TypeText}
use Rattle.named_modules.specs.Types.{int_of}
use Rattle.fault_walk.specs.Indices.{number_at, number_at_level}

module _ (t : Ty) where
  abbrev by_level : ConstText-F ConstText → Option ℕ
  by_level l = number_at_level l t

  pub of_int : (i : IntText) → number_at (Int i) t ≡ int_of t i
  of_int i = ap by_level (outs-Int i)

  pub of_null : (start : ℕ) → number_at (Null start) t ≡ None
  of_null start = ap by_level (outs-Null start)

  pub of_undef : number_at Undef t ≡ None
  of_undef = ap by_level outs-Undef

  pub of_global : (name : GlobalNameText) → number_at (Global name) t ≡ None
  of_global name = ap by_level (outs-Global name)

  pub of_element : (start : ℕ) (inbounds : Bool) (e : TypeText × TypeText × ConstText × List (TypeText × ConstText)) → number_at (Element start inbounds e) t ≡ None
  of_element start inbounds e = ap by_level (outs-Element start inbounds e)

  pub of_cast : (start : ℕ) (c : TypeText × ConstText × TypeText) → number_at (Cast start c) t ≡ None
  of_cast start c = ap by_level (outs-Cast start c)
