-- The bytes of a hint file are read as something: each of them is no JSON text, or has a value, which has the form or a first fault.
use Rattle.std.proofs.Common.{◌≡◌, ◌⊎◌, inl, inr, ℕ, Bool, true, false, List, Option, None, Some, Ok, Err, refl, sym, ◌∙◌}
use Rattle.std.specs.Prelude.{IsUtf8}
use Rattle.std.specs.Str.{is_utf8}
use Rattle.std.proofs.lemmas.Str.{IsUtf8-from_is_utf8, is_utf8-from_IsUtf8}
use Rattle.serde_json.specs.Data.{Data}
use Rattle.serde_json.specs.Read.{read}
use Rattle.json_forms.specs.declared.failure.Fault.{Fault}
use Rattle.json_forms.specs.Faults.{here}
use Rattle.json_forms.specs.Forms.{Reading}
use Rattle.hint_format.specs.Form.{hints_form, HintsOf, IsHintFault, IsHintReading}
use Rattle.hint_format.specs.Laws.{TextsAreRead}
use Rattle.hint_format.specs.Reading.{read_leaves}
use Rattle.erhl_assert.specs.declared.hints.Hints.{Hints}

module _ (texts : TextsAreRead) (bytes : List ℕ) where
  abbrev HasReading : Type 0
  HasReading = (reading : Reading Hints) × IsHintReading bytes reading

  of_value : IsUtf8 bytes → (value : Option Data) → read bytes ≡ value → HasReading
  of_value utf8 (Some d) is = (hints_form read_leaves d, (read_leaves, texts, inl (d, (utf8, is), refl)))
  of_value utf8 None is = (Err here, (read_leaves, texts, inr ((λ _. is), refl)))

  of_bytes : (are : Bool) → is_utf8 bytes ≡ are → HasReading
  of_bytes true is = of_value (IsUtf8-from_is_utf8 bytes is) (read bytes) refl
  of_bytes false is = (
    Err here,
    (read_leaves, texts, inr ((λ utf8. let both : false ≡ true = sym is ∙ is_utf8-from_IsUtf8 bytes utf8 in cc), refl)),
  )

  of_reading : HasReading → ((h : Hints) × HintsOf bytes h) ⊎ ((f : Fault) × IsHintFault bytes f)
  of_reading (Ok h, is) = inl (h, is)
  of_reading (Err f, is) = inr (f, is)

  pub hints_judged : ((h : Hints) × HintsOf bytes h) ⊎ ((f : Fault) × IsHintFault bytes f)
  hints_judged = of_reading (of_bytes (is_utf8 bytes) refl)
