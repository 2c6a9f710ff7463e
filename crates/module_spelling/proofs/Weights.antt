-- How many lines stand in what is read, and that each rule adds its own.
use Rattle.std.proofs.Common.{◌≡◌, ◌<◌, ◌+◌, ℕ, zero, suc, Bool, cond, List, [], ◌∷◌, length, refl, subst, arith}
use Rattle.module_grammar.specs.declared.flow.BehindText.{BehindText}
use Rattle.module_grammar.specs.declared.flow.BehindText.TheVariants as behind_text
use Rattle.module_grammar.specs.declared.flow.BlockText.{BlockText}
use Rattle.module_grammar.specs.declared.flow.BodyText.{BodyText}
use Rattle.module_grammar.specs.declared.functions.DefinitionText.{DefinitionText}
use Rattle.module_grammar.specs.declared.items.ItemText.{ItemText}
use Rattle.module_grammar.specs.declared.items.ItemText.TheVariants as item
use Rattle.module_grammar.specs.declared.lines.ExprText.{ExprText}
use Rattle.module_grammar.specs.declared.lines.ExprText.TheVariants as expression
use Rattle.module_grammar.specs.declared.lines.LineText.{LineText}
use Rattle.module_grammar.specs.BlockRules as block_rules
use Rattle.module_grammar.specs.ItemRules as item_rules
use Rattle.module_grammar.specs.LineRules as line_rules
use Rattle.module_grammar.specs.Rules.{first_rule, meaning, rules}
use Rattle.module_grammar.specs.Sorts.{Sort, Holds, Module, Item, Operation, Attach, CallBody, VoidCallee, VoidCall, Line, Lines, Expr, Block, Blocks, Body, Behind, Node, End, Term, sort, vocabulary}
use Rattle.module_spelling.specs.Opened.{lines_at}
use Rattle.named_modules.specs.Functions.{blocks_in}
use Rattle.named_modules.specs.Lines.{is_debug_call, is_dropped, is_dropped_call}
use Rattle.module_spelling.proofs.Counted.{sum_each}
use Rattle.predictive.specs.Meaning.{EachOf}
use Rattle.predictive.specs.Typed.{Rule, made, nth}

-- ---- weights

-- what is dropped is no line
abbrev pub unless_dropped : Bool → ℕ
unless_dropped dropped = cond dropped 0 1

abbrev pub line_weight : LineText → ℕ
line_weight w = unless_dropped (is_dropped w.attached.instruction)

abbrev pub lines_weight : List LineText → ℕ
lines_weight [] = 0
lines_weight (w ∷ ws) = line_weight w + lines_weight ws

abbrev pub body_weight : BodyText → ℕ
body_weight w = length w.phis + lines_weight w.lines

abbrev pub behind_weight : BehindText → ℕ
behind_weight (behind_text.Phi node body) = 1 + body_weight body
behind_weight (behind_text.Line attached lines) = unless_dropped (is_dropped attached.instruction) + lines_weight lines

abbrev pub block_weight : BlockText → ℕ
block_weight w = body_weight w.body + 1

abbrev pub blocks_weight : List BlockText → ℕ
blocks_weight [] = 0
blocks_weight (w ∷ ws) = block_weight w + blocks_weight ws

abbrev pub definition_weight : DefinitionText → ℕ
definition_weight w = blocks_weight (blocks_in w)

abbrev pub item_weight : ItemText → ℕ
item_weight (item.Definition w) = definition_weight w
item_weight w = 0

abbrev pub items_weight : List ItemText → ℕ
items_weight [] = 0
items_weight (w ∷ ws) = item_weight w + items_weight ws

abbrev pub expression_weight : ExprText → ℕ
expression_weight (expression.Operation w) = 1
expression_weight w = 0

abbrev pub weight : (s : Sort) → Holds s → ℕ
weight Module x = items_weight x.items
weight Item x = item_weight x
weight Operation x = 1
weight Attach x = unless_dropped (is_dropped x.instruction)
weight CallBody x = unless_dropped (is_dropped_call x)
weight VoidCallee x = unless_dropped (is_debug_call x.call)
weight VoidCall x = unless_dropped (is_debug_call x)
weight Line x = line_weight x
weight Lines x = lines_weight x
weight Expr x = expression_weight x
weight Block x = block_weight x
weight Blocks x = blocks_weight x
weight Body x = body_weight x
weight Behind x = behind_weight x
weight Node x = 1
weight End x = 1
weight Term x = 1
weight s x = 0

abbrev pub weight_at : (n : ℕ) → vocabulary.Value n → ℕ
weight_at n v = weight (sort n) v

-- ---- rules

-- a rule of this number adds its own to what stands in its right side
abbrev pub IsWeighed : ℕ → Rule vocabulary → Type 0
IsWeighed p r =
    (vs : EachOf vocabulary.Content vocabulary.Value r.right)
    → weight_at r.left (made vocabulary r vs) ≡ lines_at p + sum_each meaning weight_at r.right vs

abbrev AllFrom : ℕ → List (Rule vocabulary) → Type 0
AllFrom p [] = Unit {0}
AllFrom p (r ∷ rs) = IsWeighed p r × AllFrom (suc p) rs

items : IsWeighed 1 item_rules.items
items (i, (rest, tt)) = omega arith

definition : IsWeighed 8 item_rules.definition
definition (_, (linkage, (head, (attachment, (at, (entry, (others, _))))))) = omega arith

tail_call : IsWeighed 138 line_rules.tail_call
tail_call (_, (_, (b, (attachments, tt)))) = omega arith

call : IsWeighed 139 line_rules.call
call (_, (b, (attachments, tt))) = omega arith

call_of_void : IsWeighed 155 line_rules.call_of_void
call_of_void (_, (v, tt)) = omega arith

void_callee : IsWeighed 157 line_rules.void_callee
void_callee (v, tt) = omega arith

stated_callee : IsWeighed 158 line_rules.stated_callee
stated_callee (_, (_, (_, (v, tt)))) = omega arith

line : IsWeighed 167 line_rules.line
line (register, (attached, tt)) = omega arith

lines : IsWeighed 171 line_rules.lines
lines (l, (ls, tt)) = omega arith

block : IsWeighed 179 block_rules.block
block (label, (b, (end, tt))) = omega arith

blocks : IsWeighed 183 block_rules.blocks
blocks (b, (bs, tt)) = omega arith

body : IsWeighed 185 block_rules.body
body (_, (behind_text.Phi n b, tt)) = omega arith
body (_, (behind_text.Line a ls, tt)) = omega arith

behind_phi : IsWeighed 186 block_rules.behind_phi
behind_phi (n, (b, tt)) = omega arith

behind_line : IsWeighed 187 block_rules.behind_line
behind_line (a, (ls, tt)) = omega arith

weighed : AllFrom 0 rules
weighed = ((λ v. refl), (items, ((λ v. refl), ((λ v. refl), ((λ v. refl), ((λ v. refl), ((λ v. refl), ((λ v. refl), (definition, ((λ v. refl), ((λ v. refl), ((λ v. refl), ((λ v. refl), ((λ v. refl), ((λ v. refl), ((λ v. refl), ((λ v. refl), ((λ v. refl), ((λ v. refl), ((λ v. refl), ((λ v. refl), ((λ v. refl), ((λ v. refl), ((λ v. refl), ((λ v. refl), ((λ v. refl), ((λ v. refl), ((λ v. refl), ((λ v. refl), ((λ v. refl), ((λ v. refl), ((λ v. refl), ((λ v. refl), ((λ v. refl), ((λ v. refl), ((λ v. refl), ((λ v. refl), ((λ v. refl), ((λ v. refl), ((λ v. refl), ((λ v. refl), ((λ v. refl), ((λ v. refl), ((λ v. refl), ((λ v. refl), ((λ v. refl), ((λ v. refl), ((λ v. refl), ((λ v. refl), ((λ v. refl), ((λ v. refl), ((λ v. refl), ((λ v. refl), ((λ v. refl), ((λ v. refl), ((λ v. refl), ((λ v. refl), ((λ v. refl), ((λ v. refl), ((λ v. refl), ((λ v. refl), ((λ v. refl), ((λ v. refl), ((λ v. refl), ((λ v. refl), ((λ v. refl), ((λ v. refl), ((λ v. refl), ((λ v. refl), ((λ v. refl), ((λ v. refl), ((λ v. refl), ((λ v. refl), ((λ v. refl), ((λ v. refl), ((λ v. refl), ((λ v. refl), ((λ v. refl), ((λ v. refl), ((λ v. refl), ((λ v. refl), ((λ v. refl), ((λ v. refl), ((λ v. refl), ((λ v. refl), ((λ v. refl), ((λ v. refl), ((λ v. refl), ((λ v. refl), ((λ v. refl), ((λ v. refl), ((λ v. refl), ((λ v. refl), ((λ v. refl), ((λ v. refl), ((λ v. refl), ((λ v. refl), ((λ v. refl), ((λ v. refl), ((λ v. refl), ((λ v. refl), ((λ v. refl), ((λ v. refl), ((λ v. refl), ((λ v. refl), ((λ v. refl), ((λ v. refl), ((λ v. refl), ((λ v. refl), ((λ v. refl), ((λ v. refl), ((λ v. refl), ((λ v. refl), ((λ v. refl), ((λ v. refl), ((λ v. refl), ((λ v. refl), ((λ v. refl), ((λ v. refl), ((λ v. refl), ((λ v. refl), ((λ v. refl), ((λ v. refl), ((λ v. refl), ((λ v. refl), ((λ v. refl), ((λ v. refl), ((λ v. refl), ((λ v. refl), ((λ v. refl), ((λ v. refl), ((λ v. refl), ((λ v. refl), ((λ v. refl), ((λ v. refl), ((λ v. refl), ((λ v. refl), ((λ v. refl), (tail_call, (call, ((λ v. refl), ((λ v. refl), ((λ v. refl), ((λ v. refl), ((λ v. refl), ((λ v. refl), ((λ v. refl), ((λ v. refl), ((λ v. refl), ((λ v. refl), ((λ v. refl), ((λ v. refl), ((λ v. refl), ((λ v. refl), ((λ v. refl), (call_of_void, ((λ v. refl), (void_callee, (stated_callee, ((λ v. refl), ((λ v. refl), ((λ v. refl), ((λ v. refl), ((λ v. refl), ((λ v. refl), ((λ v. refl), ((λ v. refl), (line, ((λ v. refl), ((λ v. refl), ((λ v. refl), (lines, ((λ v. refl), ((λ v. refl), ((λ v. refl), ((λ v. refl), ((λ v. refl), ((λ v. refl), ((λ v. refl), (block, ((λ v. refl), ((λ v. refl), ((λ v. refl), (blocks, ((λ v. refl), (body, (behind_phi, (behind_line, ((λ v. refl), ((λ v. refl), ((λ v. refl), ((λ v. refl), ((λ v. refl), ((λ v. refl), ((λ v. refl), ((λ v. refl), ((λ v. refl), ((λ v. refl), ((λ v. refl), ((λ v. refl), ((λ v. refl), ((λ v. refl), ((λ v. refl), ((λ v. refl), ((λ v. refl), ((λ v. refl), tt))))))))))))))))))))))))))))))))))))))))))))))))))))))))))))))))))))))))))))))))))))))))))))))))))))))))))))))))))))))))))))))))))))))))))))))))))))))))))))))))))))))))))))))))))))))))))))))))))))))))))))))

weighed_at : (rs : List (Rule vocabulary)) (i p : ℕ) → AllFrom i rs → p < length rs → IsWeighed (i + p) (nth first_rule rs p)
weighed_at [] i p all h = absurd (grind arith)
weighed_at (r ∷ rs) i zero all h = let here : i ≡ i + 0 = omega arith in subst (λ j. IsWeighed j r) here all.0
weighed_at (r ∷ rs) i (suc p) all h =
    let next : suc i + p ≡ i + suc p = omega arith in subst (λ j. IsWeighed j (nth first_rule rs p)) next (weighed_at rs (suc i) p all.1 (grind arith))

pub each_rule : (p : ℕ) → p < length rules → IsWeighed p (nth first_rule rules p)
each_rule p h = let same : 0 + p ≡ p = omega arith in subst (λ j. IsWeighed j (nth first_rule rules p)) same (weighed_at rules 0 p weighed h)
