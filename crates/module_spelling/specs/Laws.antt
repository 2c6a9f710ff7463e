-- Which rules the numbers of `Opened.antt` are, and examples of depths.
use Rattle.std.specs.Prelude.{◌≡◌, ℕ, [], ◌∷◌, map}
use Rattle.module_grammar.specs.Rules.{first_rule, rules}
use Rattle.module_grammar.specs.Sorts.{vocabulary, sort, Called, DeclaredParams}
use Rattle.module_grammar.specs.BlockRules as flow
use Rattle.module_grammar.specs.ConstantRules as constant
use Rattle.module_grammar.specs.ItemRules as item
use Rattle.module_grammar.specs.LineRules as line
use Rattle.module_grammar.specs.TypeRules as type
use Rattle.predictive.specs.Grammar.{Forest, End, Leaf, Node}
use Rattle.predictive.specs.Typed.{Rule, nth}
use Rattle.module_spelling.specs.Context.{called_number, declared_number}
use Rattle.module_spelling.specs.Opened.{constant_rules, definition, depths, flow_rules, init_rules, line_rules, lines, pointers, type_rules}

abbrev pub rule_of : ℕ → Rule vocabulary
rule_of p = nth first_rule rules p

pub record RulesAreNumbered : Type 0 where
  pub pointers : rule_of pointers ≡ type.pointers
  pub definition : rule_of definition ≡ item.definition
  pub types : map rule_of type_rules ≡ type.int_type ∷ type.named_base ∷ type.array_type ∷ type.struct_type ∷ type.stars ∷ item.struct_body ∷ []
  pub constants :
      map rule_of constant_rules
      ≡ constant.int_const ∷ constant.null_const ∷ constant.undef_const ∷ constant.global_const ∷ constant.element_const ∷ constant.cast_const ∷ []
  pub inits : map rule_of init_rules ≡ constant.zero_init ∷ constant.bytes_init ∷ constant.array_init ∷ constant.struct_init ∷ []
  pub lines :
      map rule_of line_rules
      ≡ line.binary ∷ line.compare ∷ line.resize ∷ line.bitcast ∷ line.select ∷ line.element ∷ line.alloca ∷ line.load ∷ line.store
      ∷ line.convention_call ∷ line.attributes_call ∷ line.typed_call ∷ line.plain_call ∷ []
  pub flow : map rule_of flow_rules ≡ flow.node ∷ flow.ret ∷ flow.br ∷ flow.switch ∷ flow.unreachable ∷ []
  pub called : sort called_number ≡ Called
  pub declared : sort declared_number ≡ DeclaredParams

-- `i8` and these stars, and what stands behind
abbrev pub i8_then : Forest → Forest → Forest
i8_then stars = Node 74 (Node 75 (Leaf 5 End) stars)

abbrev pub no_star : Forest
no_star = Node 79 End End

abbrev pub star : Forest → Forest
star more = Node 80 (Leaf 17 more) End

pub record DepthsAreRight : Type 0 where
  -- `i8**`
  pub pointer : depths 0 (i8_then (star (star no_star)) End) ≡ 1 ∷ 2 ∷ 3 ∷ []
  -- `[2 x i8*]*`
  pub array :
      depths 0
      (Node 74
      (Node 77 (Leaf 18 (Leaf 4 (Leaf 0 (i8_then (star no_star) (Leaf 0 End))))) (star no_star))
      End)
      ≡ 1 ∷ 1 ∷ 1 ∷ 2 ∷ 3 ∷ 1 ∷ 4 ∷ []
  -- `[i8 0]` as an initialiser
  pub list :
      depths 0
      (Node 110
      (Leaf 18 (Node 113 (i8_then no_star (Node 107 (Node 99 (Node 95 (Leaf 4 End) End) End) (Node 114 End End))) (Leaf 0 End)))
      End)
      ≡ 1 ∷ 2 ∷ 2 ∷ 1 ∷ []

-- of definitions whose lines are these, as if each were one token
pub record LinesAreCounted : Type 0 where
  -- `ret`, `br`; `define` and `ret` again
  pub restart : lines 0 (Node 8 (Leaf 0 (Node 195 (Leaf 1 End) (Node 196 (Leaf 2 End) End))) (Node 8 (Leaf 0 (Node 195 (Leaf 1 End) End)) End)) ≡ 0 ∷ 1 ∷ 2 ∷ 0 ∷ 1 ∷ []
  -- `call void @f`, of which the name begins the line; `call void @llvm.dbg.x`, which is none; `phi`
  pub calls :
      lines 0
      (Node 8
      (Node 139 (Leaf 0 (Node 155 (Leaf 1 (Node 157 (Node 159 (Leaf 2 End) End) End)) End))
      (Node 139 (Leaf 0 (Node 155 (Leaf 1 (Node 157 (Node 160 (Leaf 3 End) End) End)) End)) (Node 188 (Leaf 4 End) End)))
      End)
      ≡ 0 ∷ 0 ∷ 1 ∷ 1 ∷ 1 ∷ 1 ∷ 2 ∷ []
