-- Tokens in order stay in order where the text goes on, and where one more is put behind them.
use Rattle.std.proofs.Common.{◌≡◌, ℕ, ◌+◌, ◌<◌, ◌≤◌, List, [], ◌∷◌, ◌++◌, arith, sym, subst}
use Rattle.ir_lexer.specs.declared.token.Token as tokens
use Rattle.ir_lexer.specs.declared.token.Kind.{Kind}
use Rattle.ir_lexer.specs.Cut.{AreInOrder}
use Rattle.ir_lexer.proofs.Cuts.{at_place}

pub up_to : (from mid to : ℕ) (done : List tokens.Token) → AreInOrder from mid done → mid ≤ to → AreInOrder from to done
up_to from mid to [] order further = omega arith
up_to from mid to (t ∷ done) order further = (order.0, order.1, up_to t.end mid to done order.2 further)

pushed : (from : ℕ) (done : List tokens.Token) (t : tokens.Token) → AreInOrder from t.start done → t.start < t.end → AreInOrder from t.end (done ++ t ∷ [])
pushed from [] t order some = (order, some, omega arith)
pushed from (u ∷ done) t order some = (order.0, order.1, pushed u.end done t order.2 some)

pub one_more : (place : ℕ) (done items : List tokens.Token) (kind : Kind) (len : ℕ) → AreInOrder 0 place done → 1 ≤ len → items ≡ done ++ at_place kind place (place + len) ∷ [] → AreInOrder 0 (place + len) items
one_more place done items kind len order some is =
    subst (AreInOrder 0 (place + len)) (sym is) (pushed 0 done (at_place kind place (place + len)) order (omega arith))
