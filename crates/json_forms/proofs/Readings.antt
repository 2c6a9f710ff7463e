-- Bytes are read as one thing under a form.
use Rattle.std.proofs.Common.{◌≡◌, ℕ, List, Some, None, sym, ◌∙◌, ap, inl, inr}
use Rattle.serde_json.specs.Data.{Data}
use Rattle.json_forms.specs.Answers.{IsReading}
use Rattle.json_forms.specs.Forms.{Reading}

some_is : (a b : Data) → Some a ≡ Some b → a ≡ b
some_is a b e = cc

none_some : (a : Data) → None ≡ Some a → ⊥
none_some a e = cc

pub reading_once : {A : Type 0} (form : Data → Reading A) (bytes : List ℕ) (a b : Reading A) → IsReading form bytes a → IsReading form bytes b → a ≡ b
reading_once form bytes a b (inl (d, is, e)) (inl (c, are, f)) = sym e ∙ ap form (some_is d c (sym is.1 ∙ are.1)) ∙ f
reading_once form bytes a b (inl (d, is, e)) (inr (none, f)) = absurd (none_some d (sym (none is.0) ∙ is.1))
reading_once form bytes a b (inr (none, e)) (inl (d, is, f)) = absurd (none_some d (sym (none is.0) ∙ is.1))
reading_once form bytes a b (inr (none, e)) (inr (still, f)) = e ∙ sym f
