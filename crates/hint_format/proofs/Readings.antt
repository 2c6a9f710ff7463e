-- Texts are read as the form wants it, and a file's bytes as one thing.
use Rattle.std.proofs.Common.{◌≡◌, ◌⊎◌, ℕ, Bool, true, false, cond, List, Ok, Err, refl, sym, ◌∙◌, ap, subst, inl, inr}
use Rattle.std.specs.Str.{bytes_eq}
use Rattle.std.proofs.lemmas.Slice.Eq.{bytes_eq-Decides}
use Rattle.std.proofs.Math.Path.{fun_ext}
use Rattle.ir_core.specs.declared.limits.Limit.{Limit}
use Rattle.ir_core.specs.declared.limits.Limit.TheVariants as limit
use Rattle.ir_types.specs.declared.names.Name.{Name}
use Rattle.ir_types.specs.declared.names.Sigil.{Sigil}
use Rattle.ir_types.specs.declared.ty.Ty.{Ty}
use Rattle.ir_core.specs.Expressions.{Expr0}
use Rattle.ir_printer.specs.ExpressionPrinter.Printed.{printed_name}
use Rattle.ir_lexer.specs.declared.fault.TextFault.{TextFault}
use Rattle.ir_lexer.specs.declared.fault.TextFault.TheVariants as text_fault
use Rattle.expression_reader.specs.Expressions.{IsExpressionFault, SpellsExpression}
use Rattle.expression_reader.specs.Names.{IsNameFault, SpellsName}
use Rattle.expression_reader.specs.Types.{IsTypeFault, SpellsType}
use Rattle.module_texts.specs.Texts.{IsShort}
use Rattle.module_grammar.proofs.OneTree.{expressions as expressions_once, types as types_once}
use Rattle.expression_reader.proofs.Found.{faults_are_one}
use Rattle.expression_reader.proofs.Judged.{judged_expression}
use Rattle.expression_reader.proofs.NameTexts.{judged_name, name_faults_are_one, names_are_one, names_exclude}
use Rattle.expression_reader.proofs.TypeFound.{faults_are_one as type_faults_are_one}
use Rattle.expression_reader.proofs.TypeJudged.{judged_type}
use Rattle.expression_reader.proofs.TypeWhole.{exclude as types_exclude, spell_one as spell_one_type}
use Rattle.expression_reader.proofs.Whole.{exclude, spell_one}
use Rattle.erhl_assert.specs.declared.hints.Hints.{Hints}
use Rattle.json_forms.specs.declared.failure.Fault.{Fault}
use Rattle.json_forms.specs.declared.failure.Fault.TheVariants.{At, Past}
use Rattle.json_forms.specs.declared.failure.Failure.{Failure}
use Rattle.json_forms.specs.declared.failure.Failure.TheVariants.{Form, Memory}
use Rattle.json_forms.specs.Answers.{Fails, IsReading}
use Rattle.json_forms.specs.Faults.{here}
use Rattle.json_forms.specs.Forms.{Reading, read_then}
use Rattle.json_forms.proofs.Readings.{reading_once}
use Rattle.hint_format.specs.declared.fault.HintFault.TheVariants as hint_fault
use Rattle.hint_format.specs.Faults.{told_fault, fault_of_failure}
use Rattle.hint_format.specs.Form.{IsNameText, IsTextReading, Leaves, AreLeaves, PassesAsExpression, PassesAsName, PassesAsType, hints_form, IsHintReading, HintsOf, IsHintFault}
use Rattle.hint_format.specs.Reading.{expression_reading, failure_of, fault_reading, if_printed, name_reading, read_leaves, reading_of, type_reading}
use Rattle.hint_format.specs.Laws.{TextsAreRead, LeavesAreOne, ReadingsAreOne}

-- ---- expressions, types and names

-- no text means two things; one that is first at fault means nothing, and is so in one way
record AreTexts {X : Type 0} (Means : List ℕ → X → Type 0) (Has : List ℕ → TextFault → Type 0) : Type 0 where
  pub once : (text : List ℕ) (a b : X) → Means text a → Means text b → a ≡ b
  pub exclude : (text : List ℕ) (f : TextFault) (x : X) → IsShort text → Has text f × (f ≡ text_fault.Memory → ⊥) → Means text x → ⊥
  pub one : (text : List ℕ) (f g : TextFault) → Has text f × (f ≡ text_fault.Memory → ⊥) → Has text g × (g ≡ text_fault.Memory → ⊥) → f ≡ g

expressions : AreTexts SpellsExpression IsExpressionFault
expressions = record {
  once = spell_one expressions_once;
  exclude = exclude expressions_once;
  one = faults_are_one expressions_once;
}

types : AreTexts SpellsType IsTypeFault
types = record {
  once = spell_one_type types_once;
  exclude = types_exclude types_once;
  one = type_faults_are_one types_once;
}

names : (sigil : Sigil) → AreTexts (SpellsName sigil) (IsNameFault sigil)
names sigil = record { once = names_are_one sigil; exclude = names_exclude sigil; one = name_faults_are_one sigil }

-- ---- what a fault is read as

-- want of memory, or a fault that is told
told_or_memory : (f : TextFault) → (f ≡ text_fault.Memory) ⊎ ((f ≡ text_fault.Memory → ⊥) × (failure_of f ≡ Form (fault_reading f)))
told_or_memory (text_fault.Limit l) = inr (λ e. cc, refl)
told_or_memory (text_fault.BadByte place) = inr (λ e. cc, refl)
told_or_memory (text_fault.BadString place) = inr (λ e. cc, refl)
told_or_memory (text_fault.BadNumber place) = inr (λ e. cc, refl)
told_or_memory (text_fault.Expected place) = inr (λ e. cc, refl)
told_or_memory (text_fault.LeftOut place size) = inr (λ e. cc, refl)
told_or_memory (text_fault.Unknown place size) = inr (λ e. cc, refl)
told_or_memory (text_fault.Twice place size) = inr (λ e. cc, refl)
told_or_memory (text_fault.WrongNumber place due) = inr (λ e. cc, refl)
told_or_memory (text_fault.WrongType place) = inr (λ e. cc, refl)
told_or_memory text_fault.Memory = inl refl

form_is : (a b : Fault) → Form a ≡ Form b → a ≡ b
form_is a b e = cc

-- a limit that is passed, or another fault
limit_or_not : (f : TextFault) → ((l : Limit) × (f ≡ text_fault.Limit l)) ⊎ (((l : Limit) → f ≡ text_fault.Limit l → ⊥) × (fault_reading f ≡ here))
limit_or_not (text_fault.Limit l) = inl (l, refl)
limit_or_not (text_fault.BadByte place) = inr ((λ l e. cc), refl)
limit_or_not (text_fault.BadString place) = inr ((λ l e. cc), refl)
limit_or_not (text_fault.BadNumber place) = inr ((λ l e. cc), refl)
limit_or_not (text_fault.Expected place) = inr ((λ l e. cc), refl)
limit_or_not (text_fault.LeftOut place size) = inr ((λ l e. cc), refl)
limit_or_not (text_fault.Unknown place size) = inr ((λ l e. cc), refl)
limit_or_not (text_fault.Twice place size) = inr ((λ l e. cc), refl)
limit_or_not (text_fault.WrongNumber place due) = inr ((λ l e. cc), refl)
limit_or_not (text_fault.WrongType place) = inr ((λ l e. cc), refl)
limit_or_not text_fault.Memory = inr ((λ l e. cc), refl)

limit_told : (l : Limit) → text_fault.Limit l ≡ text_fault.Memory → ⊥
limit_told l e = cc

limit_is : (l m : Limit) → text_fault.Limit l ≡ text_fault.Limit m → l ≡ m
limit_is l m e = cc

-- ---- what a text is judged to be is what it is read as

module _ {X : Type 0} (Means : List ℕ → X → Type 0) (Has : List ℕ → TextFault → Type 0) (are : AreTexts Means Has) (text : List ℕ) where
  abbrev Passes : List ℕ → Limit → Type 0
  Passes t l = Has t (text_fault.Limit l)

  -- a fault that isn't of memory
  abbrev IsTold : TextFault → Type 0
  IsTold f = Has text f × (f ≡ text_fault.Memory → ⊥)

  -- what is judged of a text
  abbrev Judged : Type 0
  Judged = ((x : X) × IsShort text × Means text x) ⊎ ((f : TextFault) × IsTold f)

  -- a fault that is none of a limit, where the text is short
  at_fault : (f : TextFault) → IsShort text → Has text f × (f ≡ text_fault.Memory → ⊥)
      → ((l : Limit) × (f ≡ text_fault.Limit l)) ⊎ (((l : Limit) → f ≡ text_fault.Limit l → ⊥) × (fault_reading f ≡ here))
      → IsTextReading Means Passes text (Err (fault_reading f))
  at_fault f short told (inl (l, is)) = inl (l, subst (Has text) is told.0, ap fault_reading is)
  at_fault f short told (inr (none, is)) =
      inr ((λ l passes. none l (are.one text f (text_fault.Limit l) told (passes, limit_told l))), (λ x means. are.exclude text f x short told means), is)

  once_due : (judged : Judged) (x : X) → IsShort text → Means text x → ((other : X) → Means text other → other ≡ x) → reading_of judged ≡ Ok x
  once_due (inl (y, near, read)) x short means only = ap Ok (only y read)
  once_due (inr (f, told)) x short means only = absurd (are.exclude text f x short told means)

  told_due : (judged : Judged) (f : TextFault) → Has text f × (f ≡ text_fault.Memory → ⊥) → reading_of judged ≡ Err (fault_reading f)
  told_due (inl (y, near, read)) f told = absurd (are.exclude text f y near told read)
  told_due (inr (g, first)) f told = ap (λ h. Err (fault_reading h)) (are.one text g f first told)

  -- so is a fault
  fault_due : (judged : Judged) (f : TextFault) → Has text f → Fails (failure_of f) (reading_of judged)
  fault_due judged f is fault e = by (told_or_memory f)
    where
      by : (f ≡ text_fault.Memory) ⊎ ((f ≡ text_fault.Memory → ⊥) × (failure_of f ≡ Form (fault_reading f))) → reading_of judged ≡ Err fault
      by (inl memory) = let gone = sym (ap failure_of memory) ∙ e in cc
      by (inr (told, form_fault)) = told_due judged f (is, told) ∙ ap Err (form_is (fault_reading f) fault (sym form_fault ∙ e))

-- a text that is judged is short, or passes the limit on its length
abbrev IsMeasured : (List ℕ → TextFault → Type 0) → List ℕ → Type 0
IsMeasured Has text = (f : TextFault) → Has text f → (f ≡ text_fault.Memory → ⊥) → IsShort text ⊎ (f ≡ text_fault.Limit limit.Text)

measured_expression : (text : List ℕ) → IsMeasured IsExpressionFault text
measured_expression text (text_fault.Limit limit.Text) is some = inr refl
measured_expression text (text_fault.Limit limit.Depth) is some = inl is.1.0
measured_expression text (text_fault.Limit limit.Lines) is some = absurd is
measured_expression text (text_fault.Limit limit.Block) is some = absurd is
measured_expression text (text_fault.Limit limit.Json) is some = absurd is
measured_expression text (text_fault.Limit limit.Facts) is some = absurd is
measured_expression text (text_fault.BadByte place) is some = inl is.0
measured_expression text (text_fault.BadString place) is some = inl is.0
measured_expression text (text_fault.BadNumber place) is some = inl is.0
measured_expression text (text_fault.Expected place) is some = inl is.1.0
measured_expression text (text_fault.LeftOut place size) is some = inl is.1.0
measured_expression text (text_fault.WrongType place) (f, is, at) some = inl is.1.0
measured_expression text (text_fault.Unknown place size) is some = absurd is
measured_expression text (text_fault.Twice place size) is some = absurd is
measured_expression text (text_fault.WrongNumber place due) is some = absurd is
measured_expression text text_fault.Memory is some = absurd (some refl)

measured_type : (text : List ℕ) → IsMeasured IsTypeFault text
measured_type text (text_fault.Limit limit.Text) is some = inr refl
measured_type text (text_fault.Limit limit.Depth) is some = inl is.1.0
measured_type text (text_fault.Limit limit.Lines) is some = absurd is
measured_type text (text_fault.Limit limit.Block) is some = absurd is
measured_type text (text_fault.Limit limit.Json) is some = absurd is
measured_type text (text_fault.Limit limit.Facts) is some = absurd is
measured_type text (text_fault.BadByte place) is some = inl is.0
measured_type text (text_fault.BadString place) is some = inl is.0
measured_type text (text_fault.BadNumber place) is some = inl is.0
measured_type text (text_fault.Expected place) is some = inl is.1.0
measured_type text (text_fault.LeftOut place size) is some = inl is.1.0
measured_type text (text_fault.WrongType place) (f, is, at) some = inl is.1.0
measured_type text (text_fault.Unknown place size) is some = absurd is
measured_type text (text_fault.Twice place size) is some = absurd is
measured_type text (text_fault.WrongNumber place due) is some = absurd is
measured_type text text_fault.Memory is some = absurd (some refl)

measured_name : (sigil : Sigil) (text : List ℕ) → IsMeasured (IsNameFault sigil) text
measured_name sigil text (text_fault.Limit limit.Text) is some = inr refl
measured_name sigil text (text_fault.Limit limit.Depth) is some = absurd is
measured_name sigil text (text_fault.Limit limit.Lines) is some = absurd is
measured_name sigil text (text_fault.Limit limit.Block) is some = absurd is
measured_name sigil text (text_fault.Limit limit.Json) is some = absurd is
measured_name sigil text (text_fault.Limit limit.Facts) is some = absurd is
measured_name sigil text (text_fault.BadByte place) is some = inl is.0
measured_name sigil text (text_fault.BadString place) is some = inl is.0
measured_name sigil text (text_fault.BadNumber place) is some = inl is.0
measured_name sigil text (text_fault.Expected place) is some = inl is.1.0
measured_name sigil text (text_fault.LeftOut place size) is some = inl is.1.0
measured_name sigil text (text_fault.WrongType place) is some = absurd is
measured_name sigil text (text_fault.Unknown place size) is some = absurd is
measured_name sigil text (text_fault.Twice place size) is some = absurd is
measured_name sigil text (text_fault.WrongNumber place due) is some = absurd is
measured_name sigil text text_fault.Memory is some = absurd (some refl)

module _ {X : Type 0} (Means : List ℕ → X → Type 0) (Has : List ℕ → TextFault → Type 0) (are : AreTexts Means Has) (text : List ℕ) (measured : IsMeasured Has text) where
  judged_read : (judged : Judged Means Has are text) → IsTextReading Means (λ t l. Has t (text_fault.Limit l)) text (reading_of judged)
  judged_read (inl (x, short, means)) = (short, means)
  judged_read (inr (f, told)) = by (measured f told.0 told.1)
    where
      by : IsShort text ⊎ (f ≡ text_fault.Limit limit.Text) → IsTextReading Means (λ t l. Has t (text_fault.Limit l)) text (Err (fault_reading f))
      by (inl short) = at_fault Means Has are text f short told (limit_or_not f)
      by (inr is) = inl (limit.Text, subst (Has text) is told.0, ap fault_reading is)

-- ---- the leaves

pub expression_due : (text : List ℕ) (e : Expr0) → IsShort text → SpellsExpression text e
    → ((other : Expr0) → SpellsExpression text other → other ≡ e) → expression_reading text ≡ Ok e
expression_due text = once_due SpellsExpression IsExpressionFault expressions text (judged_expression text)

pub expression_fails : (text : List ℕ) (f : TextFault) → IsExpressionFault text f → Fails (failure_of f) (expression_reading text)
expression_fails text = fault_due SpellsExpression IsExpressionFault expressions text (judged_expression text)

pub type_due : (text : List ℕ) (t : Ty) → IsShort text → SpellsType text t → ((other : Ty) → SpellsType text other → other ≡ t) → type_reading text ≡ Ok t
type_due text = once_due SpellsType IsTypeFault types text (judged_type text)

pub type_fails : (text : List ℕ) (f : TextFault) → IsTypeFault text f → Fails (failure_of f) (type_reading text)
type_fails text = fault_due SpellsType IsTypeFault types text (judged_type text)

pub name_due : (sigil : Sigil) (text : List ℕ) (name : Name) → IsShort text → SpellsName sigil text name
    → ((other : Name) → SpellsName sigil text other → other ≡ name) → name_reading sigil text ≡ Ok name
name_due sigil text = once_due (SpellsName sigil) (IsNameFault sigil) (names sigil) text (judged_name sigil text)

pub name_fails : (sigil : Sigil) (text : List ℕ) (f : TextFault) → IsNameFault sigil text f → Fails (failure_of f) (name_reading sigil text)
name_fails sigil text = fault_due (SpellsName sigil) (IsNameFault sigil) (names sigil) text (judged_name sigil text)

-- a name that is printed otherwise is no name of a hint file
tested : (sigil : Sigil) (text : List ℕ) (name : Name) → IsShort text → SpellsName sigil text name
    → (is : Bool) → bytes_eq (printed_name sigil name) text ≡ is → IsTextReading (IsNameText sigil) (PassesAsName sigil) text (cond is (Ok name) (Err here))
tested sigil text name short spelled true is = (short, (spelled, sym ((bytes_eq-Decides (printed_name sigil name) text).0 is)))
tested sigil text name short spelled false is =
    inr (
      (λ l passes. names_exclude sigil text (text_fault.Limit l) name short (passes, limit_told l) spelled),
      (λ other means. let same : bytes_eq (printed_name sigil name) text ≡ true =
          (bytes_eq-Decides (printed_name sigil name) text).1 (ap (printed_name sigil) (names_are_one sigil text name other spelled means.0) ∙ sym means.1) in
          let both = sym same ∙ is in cc),
      refl,
    )

name_text : (sigil : Sigil) (text : List ℕ) (found : Reading Name) → IsTextReading (SpellsName sigil) (PassesAsName sigil) text found
    → IsTextReading (IsNameText sigil) (PassesAsName sigil) text (read_then found (if_printed sigil text))
name_text sigil text (Ok name) is = tested sigil text name is.0 is.1 (bytes_eq (printed_name sigil name) text) refl
name_text sigil text (Err fault) (inl is) = inl is
name_text sigil text (Err fault) (inr is) = inr (is.0, (λ name means. is.1 name means.0), is.2)

pub texts_are_read : TextsAreRead
texts_are_read = (
  λ text. judged_read SpellsExpression IsExpressionFault expressions text (measured_expression text) (judged_expression text),
  λ sigil text. name_text sigil text (name_reading sigil text)
      (judged_read (SpellsName sigil) (IsNameFault sigil) (names sigil) text (measured_name sigil text) (judged_name sigil text)),
  λ text. judged_read SpellsType IsTypeFault types text (measured_type text) (judged_type text),
)

-- ---- it doesn't depend on who reads

module _ {A : Type 0} (Means : List ℕ → A → Type 0) (Passes : List ℕ → Limit → Type 0) (once : (text : List ℕ) (a b : A) → Means text a → Means text b → a ≡ b)
    (exclude : (text : List ℕ) (l : Limit) (a : A) → IsShort text → Passes text l → Means text a → ⊥)
    (one : (text : List ℕ) (l m : Limit) → Passes text l → Passes text m → l ≡ m) where
  alike : (text : List ℕ) (p q : Reading A) → IsTextReading Means Passes text p → IsTextReading Means Passes text q → p ≡ q
  alike text (Ok a) (Ok b) s t = ap Ok (once text a b s.1 t.1)
  alike text (Ok a) (Err g) s (inl t) = absurd (exclude text t.0 a s.0 t.1 s.1)
  alike text (Ok a) (Err g) s (inr t) = absurd (t.1 a s.1)
  alike text (Err f) (Ok b) (inl s) t = absurd (exclude text s.0 b t.0 s.1 t.1)
  alike text (Err f) (Ok b) (inr s) t = absurd (s.1 b t.1)
  alike text (Err f) (Err g) (inl s) (inl t) = ap Err (s.2 ∙ ap Past (one text s.0 t.0 s.1 t.1) ∙ sym t.2)
  alike text (Err f) (Err g) (inl s) (inr t) = absurd (t.0 s.0 s.1)
  alike text (Err f) (Err g) (inr s) (inl t) = absurd (s.0 t.0 t.1)
  alike text (Err f) (Err g) (inr s) (inr t) = ap Err (s.2 ∙ sym t.2)

expression_alike : (text : List ℕ) (p q : Reading Expr0) → IsTextReading SpellsExpression PassesAsExpression text p → IsTextReading SpellsExpression PassesAsExpression text q → p ≡ q
expression_alike =
    alike SpellsExpression PassesAsExpression expressions.once
    (λ text l a short passes. expressions.exclude text (text_fault.Limit l) a short (passes, limit_told l))
    (λ text l m s t. limit_is l m (expressions.one text (text_fault.Limit l) (text_fault.Limit m) (s, limit_told l) (t, limit_told m)))

type_alike : (text : List ℕ) (p q : Reading Ty) → IsTextReading SpellsType PassesAsType text p → IsTextReading SpellsType PassesAsType text q → p ≡ q
type_alike =
    alike SpellsType PassesAsType types.once
    (λ text l a short passes. types.exclude text (text_fault.Limit l) a short (passes, limit_told l))
    (λ text l m s t. limit_is l m (types.one text (text_fault.Limit l) (text_fault.Limit m) (s, limit_told l) (t, limit_told m)))

name_alike : (sigil : Sigil) (text : List ℕ) (p q : Reading Name) → IsTextReading (IsNameText sigil) (PassesAsName sigil) text p → IsTextReading (IsNameText sigil) (PassesAsName sigil) text q → p ≡ q
name_alike sigil =
    alike (IsNameText sigil) (PassesAsName sigil) (λ text a b s t. names_are_one sigil text a b s.0 t.0)
    (λ text l a short passes means. names_exclude sigil text (text_fault.Limit l) a short (passes, limit_told l) means.0)
    (λ text l m s t. limit_is l m (name_faults_are_one sigil text (text_fault.Limit l) (text_fault.Limit m) (s, limit_told l) (t, limit_told m)))

leaves_same : (a b : Leaves) → a.expression ≡ b.expression → a.name ≡ b.name → a.ty ≡ b.ty → a ≡ b
leaves_same a b p q r =
    ap (λ e. record { expression = e; name = a.name; ty = a.ty }) p ∙ ap (λ n. record { expression = b.expression; name = n; ty = a.ty }) q
    ∙ ap (λ t. record { expression = b.expression; name = b.name; ty = t }) r

pub leaves_are_one : LeavesAreOne
leaves_are_one a b are too =
    leaves_same a b
    (fun_ext (λ text. expression_alike text (a.expression text) (b.expression text) (are.0 text) (too.0 text)))
    (fun_ext (λ sigil. fun_ext (λ text. name_alike sigil text (a.name sigil text) (b.name sigil text) (are.1 sigil text) (too.1 sigil text))))
    (fun_ext (λ text. type_alike text (a.ty text) (b.ty text) (are.2 text) (too.2 text)))

pub readings_are_one : ReadingsAreOne
readings_are_one bytes a b (l, are, s) (m, too, t) =
    reading_once (hints_form m) bytes a b (subst (λ (leaves : Leaves). IsReading (hints_form leaves) bytes a) (leaves_are_one l m are too) s) t

-- a short text is read as what it means
pub expression_read : (leaves : Leaves) → AreLeaves leaves → (text : List ℕ) (e : Expr0) → IsShort text → SpellsExpression text e → leaves.expression text ≡ Ok e
expression_read leaves are text e short means = expression_alike text (leaves.expression text) (Ok e) (are.0 text) (short, means)

pub type_read : (leaves : Leaves) → AreLeaves leaves → (text : List ℕ) (t : Ty) → IsShort text → SpellsType text t → leaves.ty text ≡ Ok t
type_read leaves are text t short means = type_alike text (leaves.ty text) (Ok t) (are.2 text) (short, means)

pub name_read : (leaves : Leaves) → AreLeaves leaves → (sigil : Sigil) (text : List ℕ) (name : Name) → IsShort text → IsNameText sigil text name → leaves.name sigil text ≡ Ok name
name_read leaves are sigil text name short means =
    name_alike sigil text (leaves.name sigil text) (Ok name) (are.1 sigil text) (short, means)

-- ---- what a reader of the whole answers

ok_is : (a b : Hints) → ◌≡◌ {A = Reading Hints} (Ok a) (Ok b) → a ≡ b
ok_is a b e = cc

ok_err : (a : Hints) (fault : Fault) → ◌≡◌ {A = Reading Hints} (Ok a) (Err fault) → ⊥
ok_err a fault e = cc

pub read_by_leaves : (bytes : List ℕ) (due : Reading Hints) → IsReading (hints_form read_leaves) bytes due → IsHintReading bytes due
read_by_leaves bytes due is = (read_leaves, texts_are_read, is)

pub no_other_hints : (bytes : List ℕ) (hints other : Hints) → HintsOf bytes hints → HintsOf bytes other → other ≡ hints
no_other_hints bytes hints other is too = ok_is other hints (readings_are_one bytes (Ok other) (Ok hints) too is)

pub no_hints : (bytes : List ℕ) (fault : Fault) (hints : Hints) → IsHintFault bytes fault → HintsOf bytes hints → ⊥
no_hints bytes fault hints is too = ok_err hints fault (readings_are_one bytes (Ok hints) (Err fault) too is)

told_once : (a b : Fault) → told_fault a ≡ told_fault b → a ≡ b
told_once (At p) (At q) e = ap At (cc)
told_once (Past k) (Past l) e = ap Past (cc)
told_once (At p) (Past l) e = cc
told_once (Past k) (At q) e = cc

no_fault : (fault : Fault) → hint_fault.Memory ≡ told_fault fault → ⊥
no_fault (At p) e = cc
no_fault (Past l) e = cc

pub fault_held : (bytes : List ℕ) (failure : Failure) → ((fault : Fault) → failure ≡ Form fault → IsReading (hints_form read_leaves) bytes (Err fault))
    → (fault : Fault) → fault_of_failure failure ≡ told_fault fault → IsHintFault bytes fault
fault_held bytes (Form found) is fault told = read_by_leaves bytes (Err fault) (is fault (ap Form (told_once found fault told)))
fault_held bytes Memory is fault told = absurd (no_fault fault told)
