-- lists that sorters, queues and readers give, as their members
pub use Rattle.list_laws.proofs.SameMembers.{has_at, has_from_contains, contains_from_has, same_permuted, same_self, same_back, same_on, same_map, same_append, taken_last}
pub use Rattle.list_laws.proofs.SortedLaws.{none_before, sorted_rest}
