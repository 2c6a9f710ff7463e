use Rattle.std.proofs.Common.{◌≡◌, ◌+◌, ◌∷◌, map, drop, sym, ap, ◌∙◌, arith}
use Rattle.std.proofs.lemmas.List.{drop_more}
use Rattle.json_forms.specs.JsonValues.View.{view, put_all, sorted_view}
use Rattle.json_forms.proofs.JsonValues.Members.{sorted_view_inserted}
use Rattle.json_forms.proofs.json_values.sorting.sorted.Goals as goal

pub loop-member-preserved : goal.loop-member-preserved
loop-member-preserved c =
    let l = c.loop-member in
    let ms = c.args.members.now in
    let i = l.member-index in
    let inserted = ap sorted_view c.in_ok-insert.ensures.entries ∙ sorted_view_inserted l.found.entries _ _ in
    let front : drop i ms ≡ c.member-item.result ∷ drop (i + 1) ms = drop_more ms i c.member-item.result (omega arith) ∙ ap (λ m. m ∷ drop (i + 1) ms) (sym c.member-item.is) in
    ap (put_all (map (λ m. (m.0, view m.1)) (drop (i + 1) ms))) inserted ∙ ap (λ rest. put_all (map (λ m. (m.0, view m.1)) rest) (sorted_view l.found.entries)) (sym front) ∙ l.invariant
