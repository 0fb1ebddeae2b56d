-- what remains depends on the members of the lists alone, and not on their order
use Rattle.std.specs.Prelude.{ℕ, List, Option}
use Rattle.std.proofs.Common.{inl, inr}
use Rattle.rec_words.specs.declared.node.Node.{Node}
use Rattle.canon_file.specs.declared.row.Row.{Row}
use Rattle.canon_file.specs.Members.{SameMembers}
use Rattle.arc_file.specs.declared.arc.Arc.{Arc}
use Rattle.arc_diagrams.specs.Reducing.{final_arc, Queues, Leaves, Remains, IsCollected, Collects, Numbers, AreNamed, Forwards, FindsRoot}
use Rattle.arc_diagrams.specs.declared.source_row.SourceRow.{SourceRow}
use Rattle.arc_diagrams.specs.declared.name.Name.{Name}

pub queues-same : (n above to : ℕ) (arcs queue other : List Arc) → SameMembers queue other → Queues n above to arcs queue → Queues n above to arcs other
queues-same n above to arcs queue other same q = record {
  from = λ x m. q.from x (same.back x m);
  each = λ a m s t. same.there (final_arc n arcs a) (q.each a m s t);
}

pub leaves-same : (i : ℕ) (arcs unread other : List Arc) → SameMembers unread other → Leaves i arcs unread → Leaves i arcs other
leaves-same i arcs unread other same l = record {
  from = λ a m. l.from a (same.back a m);
  each = λ a m shallow. same.there a (l.each a m shallow);
}

pub remains-same : (n root i : ℕ) (arcs queue unread other_queue other_unread : List Arc) (nodes : List Node) (known : Option ℕ)
    → SameMembers queue other_queue → SameMembers unread other_unread
    → Remains n root i arcs queue unread nodes known → Remains n root i arcs other_queue other_unread nodes known
remains-same n root i arcs queue unread other_queue other_unread nodes known same_queue same_unread r = record {
  queued = queues-same n i i arcs queue other_queue same_queue r.queued;
  leaves = leaves-same i arcs unread other_unread same_unread r.leaves;
  made = r.made;
  root_known = r.root_known;
}

collected-same : (rows other_rows : List SourceRow) (names other_names : List Name) (source : ℕ) → SameMembers rows other_rows → SameMembers names other_names
    → IsCollected rows names source → IsCollected other_rows other_names source
collected-same rows other_rows names other_names source same_rows same_names (inl (r, m, e)) = inl (r, same_rows.there r m, e)
collected-same rows other_rows names other_names source same_rows same_names (inr (p, m, e)) = inr (p, same_names.there p m, e)

pub collects-same : (n i : ℕ) (arcs queue other noted : List Arc) (rows other_rows : List SourceRow) (names other_names : List Name)
    → SameMembers queue other → SameMembers rows other_rows → SameMembers names other_names
    → Collects n i arcs queue noted rows names → Collects n i arcs other noted other_rows other_names
collects-same n i arcs queue other noted rows other_rows names other_names same same_rows same_names c =
    let back_rows : SameMembers other_rows rows = record { there = same_rows.back; back = same_rows.there } in
    let back_names : SameMembers other_names names = record { there = same_names.back; back = same_names.there } in
    record {
      queue_from = λ q m. c.queue_from q (same.back q m);
      noted_from = c.noted_from;
      each = λ a m above to. elim (c.each a m above to) [
        | inl k ↦ inl (same.there (final_arc n arcs a) k)
        | inr k ↦ inr (elim k [ inl l ↦ inl l | inr l ↦ inr (collected-same rows other_rows names other_names a.source same_rows same_names l) ])
      ];
      rows_right = λ r m. c.rows_right r (same_rows.back r m);
      names_right = λ p m. c.names_right p (same_names.back p m);
      names_plain = λ p m. c.names_plain p (same_names.back p m);
      one_source = c.one_source;
      queue_behind = λ s k q m. c.queue_behind s (collected-same other_rows rows other_names names s back_rows back_names k) q (same.back q m);
      noted_behind = λ s k p m. c.noted_behind s (collected-same other_rows rows other_names names s back_rows back_names k) p m;
      queue_below = λ p m q k. c.queue_below p m q (same.back q k);
    }

pub noted-same : (n i : ℕ) (arcs queue noted other : List Arc) (rows : List SourceRow) (names : List Name) → SameMembers noted other
    → Collects n i arcs queue noted rows names → Collects n i arcs queue other rows names
noted-same n i arcs queue noted other rows names same c = record {
  queue_from = c.queue_from;
  noted_from = λ p m. c.noted_from p (same.back p m);
  each = λ a m above to. elim (c.each a m above to) [
    | inl k ↦ inl k
    | inr k ↦ inr (elim k [ inl l ↦ inl (same.there (final_arc n arcs a) l) | inr l ↦ inr l ])
  ];
  rows_right = c.rows_right;
  names_right = c.names_right;
  names_plain = c.names_plain;
  one_source = λ p q m k. c.one_source p q (same.back p m) (same.back q k);
  queue_behind = c.queue_behind;
  noted_behind = λ s k p m. c.noted_behind s k p (same.back p m);
  queue_below = λ p m q k. c.queue_below p (same.back p m) q k;
}

pub numbers-same : (n i : ℕ) (arcs : List Arc) (done : List Row) (last : Option Row) (rows : List SourceRow) (names other : List Name)
    → SameMembers names other → Numbers n i arcs done last rows names → Numbers n i arcs done last rows other
numbers-same n i arcs done last rows names other same c =
    let same_rows : SameMembers rows rows = record { there = λ r m. m; back = λ r m. m } in
    record {
      whole = c.whole;
      ends = c.ends;
      each = λ a m here. collected-same rows rows names other a.source same_rows same (c.each a m here);
      rows_right = c.rows_right;
      names_right = λ p m. c.names_right p (same.back p m);
    }

pub named-same : (n i : ℕ) (arcs : List Arc) (names other : List Name) → SameMembers names other → AreNamed n i arcs names → AreNamed n i arcs other
named-same n i arcs names other same c = record {
  each = λ a m here. let (p, k, e) = c.each a m here in (p, same.there p k, e);
  right = λ p m. c.right p (same.back p m);
}

pub forwards-same : (n i : ℕ) (arcs queue other unread other_unread : List Arc) (names other_names : List Name)
    → SameMembers queue other → SameMembers unread other_unread → SameMembers names other_names
    → Forwards n i arcs queue unread names → Forwards n i arcs other other_unread other_names
forwards-same n i arcs queue other unread other_unread names other_names same same_unread same_names f = record {
  queue_from = λ q m. f.queue_from q (same.back q m);
  each = λ a m above to. elim (f.each a m above to) [
    | inl k ↦ inl (same.there (final_arc n arcs a) k)
    | inr (k, here) ↦ inr (same_unread.there a k, here)
  ];
  unread_from = λ a m. f.unread_from a (same_unread.back a m);
  unread_each = λ a m shallow. same_unread.there a (f.unread_each a m shallow);
  named = λ a m here. let (p, k, e) = f.named a (same_unread.back a m) here in (p, same_names.there p k, e);
  names_right = λ p m. f.names_right p (same_names.back p m);
}

pub finds_root-same : (n root i : ℕ) (arcs : List Arc) (names other : List Name) (known : Option ℕ) → SameMembers names other
    → FindsRoot n root i arcs names known → FindsRoot n root i arcs other known
finds_root-same n root i arcs names other known same f = record {
  deeper = f.deeper;
  here = λ level. elim (f.here level) [ inl found ↦ inl found | inr (p, m, e) ↦ inr (p, same.there p m, e) ];
}
