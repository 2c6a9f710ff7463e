-- Whatever the rules of memory take is sound.
use Rattle.std.proofs.Common.{◌≡◌, true, sym, subst}
use Rattle.ir_values.specs.Constants.{Scope}
use Rattle.erhl_assert.specs.declared.facts.Schema.{Schema}
use Rattle.erhl_assert.specs.Facts.{IsSound}
use Rattle.rules_memory.specs.declared.rules.MemoryRule.{MemoryRule}
use Rattle.rules_memory.specs.declared.rules.MemoryRule.TheVariants.{GepZero, NoAliasUnique, NoAliasSwap, NoAliasDerived, NoAliasGlobals, PrivateDerived, OkAlign, OkCast, OkGlobal, LoadAlign, LoadOk}
use Rattle.rules_memory.specs.Rows.{takes_row}
use Rattle.rules_memory.specs.AddressLaws.{gep_zero_is_sound}
use Rattle.rules_memory.specs.AliasLaws.{noalias_derived_is_sound, noalias_globals_is_sound, noalias_swap_is_sound, noalias_unique_is_sound, private_derived_is_sound}
use Rattle.rules_memory.specs.AccessLaws.{load_align_is_sound, load_ok_is_sound, ok_align_is_sound, ok_cast_is_sound, ok_global_is_sound}

abbrev Takes : MemoryRule → Schema → Scope → Type 0
Takes rule schema scope = takes_row rule scope schema ≡ true

pub row_is_sound : (rule : MemoryRule) (scope : Scope) (schema : Schema) → takes_row rule scope schema ≡ true → IsSound scope schema
row_is_sound GepZero scope schema h side is fine all = gep_zero_is_sound side fine schema.from schema.to (subst (Takes GepZero schema) (sym is) h)
row_is_sound NoAliasUnique scope schema h side is fine all = noalias_unique_is_sound side fine schema.from schema.to (subst (Takes NoAliasUnique schema) (sym is) h) all
row_is_sound NoAliasSwap scope schema h side is fine all = noalias_swap_is_sound side schema.from schema.to (subst (Takes NoAliasSwap schema) (sym is) h) all
row_is_sound NoAliasDerived scope schema h side is fine all = noalias_derived_is_sound side schema.from schema.to (subst (Takes NoAliasDerived schema) (sym is) h) all
row_is_sound NoAliasGlobals scope schema h side is fine all = noalias_globals_is_sound side schema.from schema.to (subst (Takes NoAliasGlobals schema) (sym is) h)
row_is_sound PrivateDerived scope schema h side is fine all = private_derived_is_sound side fine schema.from schema.to (subst (Takes PrivateDerived schema) (sym is) h) all
row_is_sound OkAlign scope schema h side is fine all = ok_align_is_sound side schema.from schema.to (subst (Takes OkAlign schema) (sym is) h) all
row_is_sound OkCast scope schema h side is fine all = ok_cast_is_sound side fine schema.from schema.to (subst (Takes OkCast schema) (sym is) h) all
row_is_sound OkGlobal scope schema h side is fine all = ok_global_is_sound side fine schema.from schema.to (subst (Takes OkGlobal schema) (sym is) h)
row_is_sound LoadAlign scope schema h side is fine all = load_align_is_sound side schema.from schema.to (subst (Takes LoadAlign schema) (sym is) h)
row_is_sound LoadOk scope schema h side is fine all = load_ok_is_sound side schema.from schema.to (subst (Takes LoadOk schema) (sym is) h) all
