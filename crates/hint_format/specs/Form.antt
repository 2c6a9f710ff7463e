-- The form of a hint file, as far as it is read, as one function of the file's JSON value: it answers the hints, or what is first at
-- fault. A value is judged before what it holds, and members in the order of their bytes.
use Rattle.std.specs.Prelude.{◌≡◌, ◌⊎◌, ℕ, ◌^◌, ◌==◌, ◌&&◌, ◌||◌, nat_le, not, Bool, true, false, List, [], ◌∷◌, ◌++◌, length, map, drop, take, codes, if◌then◌else◌, Option, Some, None, option_and_then, is_some, Ok, Err}
use Rattle.std.specs.Int.{is_power_of_two}
use Rattle.std.specs.List.{list_any}
use Rattle.std.specs.Str.{bytes_eq}
use Rattle.serde_json.specs.Data.{Data, string, number, unsigned, array, no_items, item}
use Rattle.serde_json.specs.Find.{as_number, as_u64}
use Rattle.serde_json.specs.Written.{compact_text}
use Rattle.ir_core.specs.declared.limits.Limit.{Limit}
use Rattle.ir_types.specs.declared.names.Name.{Name}
use Rattle.ir_types.specs.declared.names.Sigil.{Sigil}
use Rattle.ir_types.specs.declared.names.Sigil.TheVariants.{Local, Global}
use Rattle.ir_types.specs.declared.ty.Ty.{Ty}
use Rattle.ir_core.specs.declared.expressions.Reg.{Reg}
use Rattle.ir_core.specs.declared.expressions.Reg.TheVariants.{Now, Old, Ghost}
use Rattle.ir_core.specs.Expressions.{Expr0, expr_has}
use Rattle.ir_core.specs.Types.{kind_of}
use Rattle.ir_types.specs.Same.{same_name}
use Rattle.ir_lexer.specs.declared.fault.TextFault.TheVariants as text_fault
use Rattle.expression_reader.specs.Expressions.{IsExpressionFault, SpellsExpression}
use Rattle.expression_reader.specs.Names.{IsNameFault, SpellsName}
use Rattle.expression_reader.specs.Types.{IsTypeFault, SpellsType}
use Rattle.module_texts.specs.Texts.{IsShort}
use Rattle.ir_printer.specs.ExpressionPrinter.Printed.{printed_name, printed_expr, printed_register, printed_type}
use Rattle.erhl_assert.specs.declared.facts.Fact.{Fact}
use Rattle.erhl_assert.specs.declared.facts.Fact.TheVariants.{LessDef}
use Rattle.erhl_assert.specs.declared.facts.Fact.TheVariants as fact
use Rattle.erhl_assert.specs.declared.facts.Side.{Side}
use Rattle.erhl_assert.specs.declared.facts.Side.TheVariants.{Src, Tgt}
use Rattle.erhl_assert.specs.declared.hints.Letter.{Letter}
use Rattle.erhl_assert.specs.declared.hints.Letter.TheVariants.{Both, Source, Target}
use Rattle.erhl_assert.specs.declared.hints.HintStep.{HintStep}
use Rattle.erhl_assert.specs.declared.hints.HintStep.TheVariants as step
use Rattle.erhl_assert.specs.declared.hints.HintEdge.{HintEdge}
use Rattle.erhl_assert.specs.declared.hints.PlacedStep.{PlacedStep}
use Rattle.erhl_assert.specs.declared.hints.HintBlock.{HintBlock}
use Rattle.erhl_assert.specs.declared.hints.FunctionHint.{FunctionHint}
use Rattle.erhl_assert.specs.declared.hints.Hints.{Hints}
use Rattle.erhl_assert.specs.Edges.{is_old}
use Rattle.hint_format.specs.declared.facts.FactKind.{FactKind}
use Rattle.hint_format.specs.declared.facts.FactKind.TheVariants.{Ge, Unique, Private, NoAlias, Access}
use Rattle.hint_format.specs.declared.steps.StepKind.{StepKind}
use Rattle.hint_format.specs.declared.steps.StepKind.TheVariants.{ByRule, ByGhost, BySame}
use Rattle.json_forms.specs.declared.failure.Fault.{Fault}
use Rattle.json_forms.specs.declared.failure.Fault.TheVariants.{Past}
use Rattle.json_forms.specs.Answers.{IsReading}
use Rattle.json_forms.specs.Faults.{here, key_step, within}
use Rattle.json_forms.specs.Forms.{Reading, read_then, or_unfit, has_members, member_of, optional_of, optional_list_of, count_of, item_of, list_of, rows_of, map_of, text_of, u64_of}

-- ---- what the texts of a file mean

-- A name is its printed text, exactly: `%x` is one, and `%"x"` none.
abbrev pub IsNameText : Sigil → List ℕ → Name → Type 0
IsNameText sigil text name = SpellsName sigil text name × (text ≡ printed_name sigil name)

-- that a text of an expression, of a type or of a name passes a limit is first at fault in it
abbrev pub PassesAsExpression : List ℕ → Limit → Type 0
PassesAsExpression text l = IsExpressionFault text (text_fault.Limit l)

abbrev pub PassesAsType : List ℕ → Limit → Type 0
PassesAsType text l = IsTypeFault text (text_fault.Limit l)

abbrev pub PassesAsName : Sigil → List ℕ → Limit → Type 0
PassesAsName sigil text l = IsNameFault sigil text (text_fault.Limit l)

-- What a text is read as: what it means, where it is short; the limit, where it passes one; else it is itself at fault.
abbrev pub IsTextReading : {A : Type 0} → (List ℕ → A → Type 0) → (List ℕ → Limit → Type 0) → List ℕ → Reading A → Type 0
IsTextReading Means Passes text (Ok a) = IsShort text × Means text a
IsTextReading {A} Means Passes text (Err fault) =
    ((l : Limit) × Passes text l × (fault ≡ Past l)) ⊎ (((l : Limit) → Passes text l → ⊥) × ((a : A) → Means text a → ⊥) × (fault ≡ here))

-- what expressions, names and types are read as
pub record Leaves : Type 0 where
  pub expression : List ℕ → Reading Expr0
  pub name : Sigil → List ℕ → Reading Name
  pub ty : List ℕ → Reading Ty

-- they go by the spelling of the logic's expressions, of names and of types, and by nothing else
abbrev pub AreLeaves : Leaves → Type 0
AreLeaves leaves = ((text : List ℕ) → IsTextReading SpellsExpression PassesAsExpression text (leaves.expression text))
    × ((sigil : Sigil) (text : List ℕ) → IsTextReading (IsNameText sigil) (PassesAsName sigil) text (leaves.name sigil text))
    × ((text : List ℕ) → IsTextReading SpellsType PassesAsType text (leaves.ty text))

-- ---- registers and expressions

-- Where an old register may not stand, a text that names one is itself at fault, once it is a text of its form.
abbrev pub expression_of_text : Leaves → Bool → List ℕ → Reading Expr0
expression_of_text leaves may_be_old text =
    read_then (leaves.expression text) (λ e. if may_be_old || not (expr_has is_old e) then Ok e else Err here)

-- what stands behind a word with which the text begins
abbrev pub behind : List ℕ → List ℕ → Option (List ℕ)
behind word text = if bytes_eq (take (length word) text) word then Some (drop (length word) text) else None

abbrev pub old_register : Bool → Name → Reading Reg
old_register may_be_old name = if may_be_old then Ok (Old name) else Err here

abbrev pub ghost_or_now : Leaves → List ℕ → Option (List ℕ) → Reading Reg
ghost_or_now leaves text (Some rest) = read_then (leaves.name Local rest) (λ name. Ok (Ghost name))
ghost_or_now leaves text None = read_then (leaves.name Local text) (λ name. Ok (Now name))

abbrev pub old_or_other : Leaves → Bool → List ℕ → Option (List ℕ) → Reading Reg
old_or_other leaves may_be_old text (Some rest) = read_then (leaves.name Local rest) (old_register may_be_old)
old_or_other leaves may_be_old text None = ghost_or_now leaves text (behind (codes "ghost ") text)

-- `%x`, `old %x` or `ghost %x`
abbrev pub register_of_text : Leaves → Bool → List ℕ → Reading Reg
register_of_text leaves may_be_old text = old_or_other leaves may_be_old text (behind (codes "old ") text)

-- a register as it is now, `%x`, and no other
abbrev pub now_of_text : Leaves → List ℕ → Reading Reg
now_of_text leaves text = read_then (leaves.name Local text) (λ name. Ok (Now name))

-- ---- types and alignments

-- an integer of 1 to 64 bits, or a pointer
abbrev pub type_of_text : Leaves → List ℕ → Reading Ty
type_of_text leaves text = read_then (leaves.ty text) (λ t. if is_some (kind_of t) then Ok t else Err here)

-- a power of two, 2 to the 29 at most
abbrev pub is_align : ℕ → Bool
is_align n = is_power_of_two n && nat_le n (2 ^ 29)

abbrev pub align_form : Data → Reading ℕ
align_form d = read_then (u64_of d) (λ n. if is_align n then Ok n else Err here)

-- ---- facts and steps

-- the word with which a fact of each kind begins
abbrev pub kind_of_text : List ℕ → Reading FactKind
kind_of_text word = if bytes_eq word (codes "ge") then Ok Ge
    else (if bytes_eq word (codes "unique") then Ok Unique
    else (if bytes_eq word (codes "private") then Ok Private
    else (if bytes_eq word (codes "noalias") then Ok NoAlias
    else (if bytes_eq word (codes "ok") then Ok Access else Err here))))

-- how many entries it has
abbrev pub size_of : FactKind → ℕ
size_of Ge = 3
size_of Unique = 2
size_of Private = 2
size_of NoAlias = 3
size_of Access = 4

abbrev pub expression_at : ℕ → Leaves → Bool → Data → Reading Expr0
expression_at i leaves may_be_old d = item_of i (λ e. text_of (expression_of_text leaves may_be_old) e) d

abbrev pub register_at : ℕ → Leaves → Data → Reading Reg
register_at i leaves d = item_of i (λ e. text_of (now_of_text leaves) e) d

abbrev pub fact_as : FactKind → Leaves → Bool → Data → Reading Fact
fact_as Ge leaves may_be_old d =
    read_then (expression_at 1 leaves may_be_old d) (λ a. read_then (expression_at 2 leaves may_be_old d) (λ b. Ok (LessDef a b)))
fact_as Unique leaves may_be_old d = read_then (register_at 1 leaves d) (λ r. Ok (fact.Unique r))
fact_as Private leaves may_be_old d = read_then (register_at 1 leaves d) (λ r. Ok (fact.Private r))
fact_as NoAlias leaves may_be_old d =
    read_then (expression_at 1 leaves may_be_old d) (λ a. read_then (expression_at 2 leaves may_be_old d) (λ b. Ok (fact.NoAlias a b)))
fact_as Access leaves may_be_old d =
    read_then (expression_at 1 leaves may_be_old d) (λ a.
    read_then (item_of 2 (λ e. text_of (type_of_text leaves) e) d) (λ t.
    read_then (item_of 3 align_form d) (λ align.
    Ok (fact.Ok a t align))))

-- `["ge", E, E]`, `["unique", R]`, `["private", R]`, `["noalias", E, E]` or `["ok", E, TYPE, ALIGN]`. A length that no fact has is the fault of
-- the array, and so is one that isn't that of its kind; a first entry that begins no fact is at fault itself.
abbrev pub fact_form : Leaves → Bool → Data → Reading Fact
fact_form leaves may_be_old d = if (count_of d == 2) || ((count_of d == 3) || (count_of d == 4))
    then read_then (item_of 0 (λ e. text_of kind_of_text e) d) (λ kind.
    if count_of d == size_of kind then fact_as kind leaves may_be_old d else Err here)
    else Err here

-- any text, since only the checker knows which rules there are
abbrev pub any_text : List ℕ → Reading (List ℕ)
any_text text = Ok text

-- `src` or `tgt`
abbrev pub side_of_text : List ℕ → Reading Side
side_of_text word = if bytes_eq word (codes "src") then Ok Src else (if bytes_eq word (codes "tgt") then Ok Tgt else Err here)

-- Steps are told apart by their members, of which a step in a block has `at` besides. No other members make a step.
abbrev pub placed_kind : Data → Option StepKind
placed_kind d = if has_members (codes "at" ∷ codes "from" ∷ codes "rule" ∷ codes "side" ∷ codes "to" ∷ []) [] d then Some ByRule
    else (if has_members (codes "at" ∷ codes "ghost" ∷ codes "is" ∷ []) [] d then Some ByGhost
    else (if has_members (codes "at" ∷ codes "by" ∷ codes "same" ∷ []) [] d then Some BySame else None))

abbrev pub edge_kind : Data → Option StepKind
edge_kind d = if has_members (codes "from" ∷ codes "rule" ∷ codes "side" ∷ codes "to" ∷ []) [] d then Some ByRule
    else (if has_members (codes "ghost" ∷ codes "is" ∷ []) [] d then Some ByGhost
    else (if has_members (codes "by" ∷ codes "same" ∷ []) [] d then Some BySame else None))

abbrev pub step_as : StepKind → Leaves → Bool → Data → Reading HintStep
step_as ByRule leaves may_be_old d =
    read_then (member_of (codes "from") (list_of (fact_form leaves may_be_old)) d) (λ from.
    read_then (member_of (codes "rule") (λ e. text_of any_text e) d) (λ rule.
    read_then (member_of (codes "side") (λ e. text_of side_of_text e) d) (λ side.
    read_then (member_of (codes "to") (fact_form leaves may_be_old) d) (λ to.
    Ok (step.Rule (record { rule = rule; side = side; schema = record { from = from; to = to } }))))))
step_as ByGhost leaves may_be_old d =
    read_then (member_of (codes "ghost") (λ e. text_of (leaves.name Local) e) d) (λ name.
    read_then (member_of (codes "is") (λ e. text_of (expression_of_text leaves may_be_old) e) d) (λ value.
    Ok (step.Ghost (record { register = Ghost name; value = value }))))
step_as BySame leaves may_be_old d =
    read_then (member_of (codes "by") (λ e. text_of (expression_of_text leaves may_be_old) e) d) (λ by_.
    read_then (member_of (codes "same") (λ e. text_of (register_of_text leaves may_be_old) e) d) (λ register.
    Ok (step.Same (record { register = register; by = by_ }))))

-- `{"at":0,"from":[],"rule":"zero_right","side":"src","to":["ge","add i32 %x, 0","i32 %x"]}`, `{"at":0,"ghost":"%g","is":"i32 %x"}` or
-- `{"at":0,"by":"i32 ghost %g","same":"%x"}`, its members in any order. No old register stands in it.
abbrev pub placed_step_form : Leaves → Data → Reading PlacedStep
placed_step_form leaves d = or_unfit (λ kind.
    read_then (member_of (codes "at") u64_of d) (λ at.
    read_then (step_as kind leaves false d) (λ step.
    Ok (record { at = at; step = step })))) (placed_kind d)

-- the same without `at`, where old registers may stand
abbrev pub edge_step_form : Leaves → Data → Reading HintStep
edge_step_form leaves d = or_unfit (λ kind. step_as kind leaves true d) (edge_kind d)

-- `{"to":"%b","steps":[]}`
abbrev pub edge_form : Leaves → Data → Reading HintEdge
edge_form leaves d = if has_members (codes "steps" ∷ codes "to" ∷ []) [] d
    then read_then (member_of (codes "steps") (list_of (edge_step_form leaves)) d) (λ steps.
    read_then (member_of (codes "to") (λ e. text_of (leaves.name Local) e) d) (λ to.
    Ok (record { to = to; steps = steps })))
    else Err here

-- ---- blocks

abbrev pub letter_of : ℕ → Reading Letter
letter_of b = if b == 98 then Ok Both else (if b == 115 then Ok Source else (if b == 116 then Ok Target else Err here))

-- The letters read already, with those that follow. `bst` is a line on both sides, one of the source and one of the target; a text
-- with another letter is itself at fault.
abbrev pub letters_of : List Letter → List ℕ → Reading (List Letter)
letters_of before [] = Ok before
letters_of before (b ∷ bs) = read_then (letter_of b) (λ letter. letters_of (before ++ letter ∷ []) bs)

abbrev pub block_names : List HintBlock → List Name
block_names blocks = map (λ (b : HintBlock). b.at) blocks

abbrev pub has_block : Name → List HintBlock → Bool
has_block name blocks = list_any (same_name name) (block_names blocks)

-- the hint of the block of that name: all other members may be left out
abbrev pub named_block : Leaves → Name → Data → Reading HintBlock
named_block leaves name d =
    read_then (optional_list_of (codes "diff") (λ e. text_of (register_of_text leaves false) e) d) (λ diff.
    read_then (optional_list_of (codes "edges") (edge_form leaves) d) (λ edges.
    read_then (optional_of (codes "lines") (λ e. text_of (letters_of []) e) d) (λ lines.
    read_then (optional_list_of (codes "src") (fact_form leaves false) d) (λ src.
    read_then (optional_list_of (codes "steps") (placed_step_form leaves) d) (λ steps.
    read_then (optional_list_of (codes "tgt") (fact_form leaves false) d) (λ tgt.
    Ok (record { at = name; lines = lines; entry = record { src = src; tgt = tgt; diff = diff }; steps = steps; edges = edges })))))))

-- `{"at":"%0","diff":["%x"],"edges":[],"lines":"bs","src":[],"steps":[],"tgt":[]}`, in which only `at` must stand. Of two blocks with one
-- name the second is at fault, at `/at`.
abbrev pub block_form : Leaves → List HintBlock → Data → Reading HintBlock
block_form leaves before d =
    if has_members (codes "at" ∷ []) (codes "diff" ∷ codes "edges" ∷ codes "lines" ∷ codes "src" ∷ codes "steps" ∷ codes "tgt" ∷ []) d
    then read_then (member_of (codes "at") (λ e. text_of (leaves.name Local) e) d) (λ name.
    if has_block name before then Err (within (key_step (codes "at")) here) else named_block leaves name d)
    else Err here

-- ---- functions and files

-- the number 1, also no `1.0`
abbrev pub first_format : ℕ → Reading (Unit {0})
first_format n = if n == 1 then Ok tt else Err here

abbrev pub format_form : Data → Reading (Unit {0})
format_form d = or_unfit first_format (option_and_then as_u64 (as_number d))

-- a key of `functions` is a function's name, as `@f`
abbrev pub key_form : Leaves → List ℕ → Reading (Unit {0})
key_form leaves key = read_then (leaves.name Global key) (λ _. Ok tt)

-- the member of that key: `{"blocks":[..]}`
abbrev pub function_form : Leaves → List ℕ → Data → Reading FunctionHint
function_form leaves key d = read_then (leaves.name Global key) (λ name. if has_members (codes "blocks" ∷ []) [] d
    then read_then (member_of (codes "blocks") (rows_of (block_form leaves)) d) (λ blocks.
    Ok (record { function = name; hint = record { blocks = blocks } }))
    else Err here)

-- `{"format":1,"functions":{"@f":{"blocks":[{"at":"%0"}]}}}`. With `"at":"0"` it is at fault at `/functions/@f/blocks/0/at`.
abbrev pub hints_form : Leaves → Data → Reading Hints
hints_form leaves d = if has_members (codes "format" ∷ codes "functions" ∷ []) [] d
    then read_then (member_of (codes "format") format_form d) (λ _.
    read_then (member_of (codes "functions") (map_of (key_form leaves) (function_form leaves)) d) (λ functions.
    Ok (record { functions = functions })))
    else Err here

-- what a file's bytes are read as: its hints, or what is first at fault
abbrev pub IsHintReading : List ℕ → Reading Hints → Type 0
IsHintReading bytes due = (leaves : Leaves) × AreLeaves leaves × IsReading (hints_form leaves) bytes due

-- the bytes are the text of such a file, and these are its hints
abbrev pub HintsOf : List ℕ → Hints → Type 0
HintsOf bytes hints = IsHintReading bytes (Ok hints)

-- they aren't, and this is first at fault
abbrev pub IsHintFault : List ℕ → Fault → Type 0
IsHintFault bytes fault = IsHintReading bytes (Err fault)

-- ---- printing

-- two expressions behind a word
abbrev pub printed_pair : List ℕ → Expr0 → Expr0 → List ℕ
printed_pair word a b =
    compact_text (array (item (string word) (item (string (printed_expr printed_register a)) (item (string (printed_expr printed_register b)) no_items))))

-- a register behind a word
abbrev pub printed_lone : List ℕ → Reg → List ℕ
printed_lone word r = compact_text (array (item (string word) (item (string (printed_register r)) no_items)))

abbrev pub printed_access : Expr0 → Ty → ℕ → List ℕ
printed_access e t align =
    compact_text (array (item (string (codes "ok")) (item (string (printed_expr printed_register e)) (item (string (printed_type t)) (item (number (unsigned align)) no_items)))))

-- a fact as a JSON array without spaces
abbrev pub printed_fact : Fact → List ℕ
printed_fact (LessDef a b) = printed_pair (codes "ge") a b
printed_fact (fact.Unique r) = printed_lone (codes "unique") r
printed_fact (fact.Private r) = printed_lone (codes "private") r
printed_fact (fact.NoAlias a b) = printed_pair (codes "noalias") a b
printed_fact (fact.Ok e t align) = printed_access e t align
