-- What each rule makes is seen where it begins, or, where it isn't written down, where what it is made of does: the rules are in their order.
use Rattle.std.proofs.Common.{refl}
use Rattle.module_derivations.specs.FlatMarks.Seeing.{AreSeen}
use Rattle.module_grammar.specs.Rules.{rules}
use Rattle.module_grammar.specs.Sorts.{vocabulary}
use Rattle.module_derivations.specs.Ahead.{seeing}

pub are_seen : AreSeen vocabulary seeing 0 rules
are_seen = ((λ s rest. refl), ((λ s rest. refl), ((λ s rest. refl), ((λ s rest. refl), ((λ s rest. refl), ((λ s rest. refl), ((λ s rest. refl), ((λ s rest. refl), ((λ s rest. refl), ((λ s rest. refl), ((λ s rest. refl), ((λ s rest. refl), ((λ s rest. refl), ((λ s rest. refl), ((λ s rest. refl), ((λ s rest. refl), ((λ s rest. refl), ((λ s rest. refl), ((λ s rest. refl), ((λ s rest. refl), ((λ s rest. refl), ((λ s rest. refl), ((λ s rest. refl), ((λ s rest. refl), ((λ s rest. refl), ((λ s. refl), ((λ s rest. refl), ((λ s rest. refl), ((λ s rest. refl), ((λ s rest. refl), ((λ s. refl), ((λ s. refl), ((λ s rest. refl), ((λ s rest. refl), ((λ s rest. refl), ((λ s rest. refl), ((λ s rest. refl), ((λ s rest. refl), ((λ s rest. refl), ((λ s rest. refl), ((λ s rest. refl), ((λ s. refl), ((λ s rest. refl), ((λ s rest. refl), ((λ s rest. refl), ((λ s rest. refl), ((λ s rest. refl), ((λ s rest. refl), ((λ s rest. refl), ((λ s rest. refl), ((λ s rest. refl), ((λ s rest. refl), ((λ s rest. refl), ((λ s rest. refl), ((λ s rest. refl), ((λ s rest. refl), ((λ s rest. refl), ((λ s rest. refl), ((λ s rest. refl), ((λ s rest. refl), ((λ s rest. refl), ((λ s rest. refl), ((λ s rest. refl), ((λ s rest. refl), ((λ s rest. refl), ((λ s. refl), ((λ s rest. refl), ((λ s rest. refl), ((λ s rest. refl), ((λ s rest. refl), ((λ s rest. refl), ((λ s rest. refl), ((λ s rest. refl), ((λ s rest. refl), ((λ s. refl), ((λ s rest. refl), ((λ s rest. refl), ((λ s rest. refl), ((λ s rest. refl), ((λ s rest. refl), ((λ s rest. refl), ((λ s rest. refl), ((λ s rest. refl), ((λ s rest. refl), ((λ s rest. refl), ((λ s rest. refl), ((λ s rest. refl), ((λ s rest. refl), ((λ s rest. refl), ((λ s rest. refl), ((λ s rest. refl), ((λ s rest. refl), ((λ s rest. refl), ((λ s rest. refl), ((λ s rest. refl), ((λ s rest. refl), ((λ s rest. refl), ((λ s rest. refl), ((λ s rest. refl), ((λ s rest. refl), ((λ s rest. refl), ((λ s rest. refl), ((λ s rest. refl), ((λ s rest. refl), ((λ s rest. refl), ((λ s rest. refl), ((λ s rest. refl), ((λ s rest. refl), ((λ s rest. refl), ((λ s rest. refl), ((λ s rest. refl), ((λ s rest. refl), ((λ s rest. refl), ((λ s rest. refl), ((λ s rest. refl), ((λ s rest. refl), ((λ s rest. refl), ((λ s rest. refl), ((λ s rest. refl), ((λ s rest. refl), ((λ s. refl), ((λ s rest. refl), ((λ s rest. refl), ((λ s rest. refl), ((λ s rest. refl), ((λ s rest. refl), ((λ s rest. refl), ((λ s rest. refl), ((λ s rest. refl), ((λ s rest. refl), ((λ s rest. refl), ((λ s rest. refl), ((λ s rest. refl), ((λ s rest. refl), ((λ s rest. refl), ((λ s rest. refl), ((λ s rest. refl), ((λ s rest. refl), ((λ s rest. refl), ((λ s rest. refl), ((λ s rest. refl), ((λ s rest. refl), ((λ s rest. refl), ((λ s rest. refl), ((λ s rest. refl), ((λ s rest. refl), ((λ s rest. refl), ((λ s rest. refl), ((λ s rest. refl), ((λ s rest. refl), ((λ s rest. refl), ((λ s rest. refl), ((λ s rest. refl), ((λ s rest. refl), ((λ s rest. refl), ((λ s rest. refl), ((λ s. refl), ((λ s rest. refl), ((λ s rest. refl), ((λ s rest. refl), ((λ s rest. refl), ((λ s. refl), ((λ s rest. refl), ((λ s rest. refl), ((λ s rest. refl), ((λ s rest. refl), ((λ s. refl), ((λ s. refl), ((λ s rest. refl), ((λ s rest. refl), ((λ s rest. refl), ((λ s rest. refl), ((λ s rest. refl), ((λ s rest. refl), ((λ s rest. refl), ((λ s rest. refl), ((λ s rest. refl), ((λ s rest. refl), ((λ s. refl), ((λ s. refl), ((λ s rest. refl), ((λ s rest. refl), ((λ s rest. refl), ((λ s rest. refl), ((λ s rest. refl), ((λ s rest. refl), ((λ s rest. refl), ((λ s rest. refl), ((λ s. refl), ((λ s rest. refl), ((λ s rest. refl), ((λ s rest. refl), ((λ s rest. refl), ((λ s. refl), ((λ s. refl), ((λ s rest. refl), ((λ s rest. refl), ((λ s rest. refl), ((λ s rest. refl), ((λ s rest. refl), ((λ s rest. refl), ((λ s rest. refl), ((λ s rest. refl), ((λ s rest. refl), ((λ s rest. refl), ((λ s. refl), tt))))))))))))))))))))))))))))))))))))))))))))))))))))))))))))))))))))))))))))))))))))))))))))))))))))))))))))))))))))))))))))))))))))))))))))))))))))))))))))))))))))))))))))))))))))))))))))))))))))))))))))))
