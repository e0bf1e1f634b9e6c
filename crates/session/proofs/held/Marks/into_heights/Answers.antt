-- At the end no entry is ahead.
use Rattle.std.proofs.Common.{◌≡◌, [], ◌++◌, map, vec_items, ap, append-nil, arith}
use Rattle.std.proofs.lemmas.List.{nil_from_length}
use Rattle.std.specs.Vec.Iter.{into_iter_items}
use Rattle.session.specs.Held.{Notes}
use Rattle.session.proofs.Noting.{heights_of, all_heights}
use Rattle.session.proofs.held.Marks.into_heights.Goals as goal

pub returns : goal.returns
returns c =
    let over : into_iter_items c.loop-entry.held ≡ [] = nil_from_length _ (grind arith) in
    let end : vec_items c.loop-entry.heights ++ heights_of (into_iter_items c.loop-entry.held) ≡ vec_items c.loop-entry.heights = rw over (append-nil _) in
    let all = all_heights (vec_items c.self.inside.held) in
    let same = ap (λ (k : Notes). map (λ m. m.height) k.noted) c.self.view_is in
    cc
