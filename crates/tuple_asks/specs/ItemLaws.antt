-- what makes asks values that can be spilled
use Rattle.std.specs.Prelude.{◌≡◌, ◌<◌, ◌^◌, All, zero, suc, refl}
use Rattle.std.specs.Ordering.{nat_cmp, ordering_then}
use Rattle.std.specs.Cmp.Derive.{then_next}
use Rattle.std.specs.Cmp.Lexicographic.{slice_cmp}
use Rattle.std.specs.declared.cmp.Ordering.{Ordering}
use Rattle.std.proofs.Common.{ap, sym, ◌∙◌, arith, inl}
use Rattle.rec_words.specs.RecordLaws.{then_equal, pointer_fits}
use Rattle.tuple_asks.specs.declared.ask.Member.{Member}
use Rattle.tuple_asks.specs.declared.ask.Members.{Members}
use Rattle.tuple_asks.specs.declared.ask.Ask.{Ask}
use Rattle.tuple_asks.specs.Items.{ask_words, IsAsk, member_cmp, members_cmp, ask_cmp}

-- a member's comparison, and another behind it
member_then : (x y : Member) (o : Ordering) → ordering_then (member_cmp x y) o ≡ ordering_then (nat_cmp x.low y.low)
    (ordering_then (nat_cmp x.high y.high) o)
member_then x y o = sym (then_next (nat_cmp x.low y.low) (nat_cmp x.high y.high) o refl refl)

members_then : (x y : Members) (o : Ordering) → ordering_then (members_cmp x y) o
    ≡ ordering_then (nat_cmp x.first.low y.first.low) (ordering_then (nat_cmp x.first.high y.first.high)
    (ordering_then (nat_cmp x.second.low y.second.low) (ordering_then (nat_cmp x.second.high y.second.high)
    (ordering_then (nat_cmp x.third.low y.third.low) (ordering_then (nat_cmp x.third.high y.third.high) o)))))
members_then x y o =
    sym (then_next (member_cmp x.first y.first)
    (ordering_then (member_cmp x.second y.second) (member_cmp x.third y.third)) o refl refl)
    ∙ ap (λ p. ordering_then (member_cmp x.first y.first) p)
    (sym (then_next (member_cmp x.second y.second) (member_cmp x.third y.third) o refl refl))
    ∙ ap (λ p. ordering_then (member_cmp x.first y.first) (ordering_then (member_cmp x.second y.second) p))
    (member_then x.third y.third o)
    ∙ ap (λ p. ordering_then (member_cmp x.first y.first) p) (member_then x.second y.second _)
    ∙ member_then x.first y.first _

-- the order of asks is that of their words
pub ask_order : (x y : Ask) → ask_cmp x y ≡ slice_cmp nat_cmp (ask_words x) (ask_words y)
ask_order x y =
    ap (λ p. ordering_then (nat_cmp x.key y.key) p) (members_then x.members y.members (nat_cmp x.asker y.asker))
    ∙ ap (λ o. ordering_then (nat_cmp x.key y.key) (ordering_then (nat_cmp x.members.first.low y.members.first.low)
    (ordering_then (nat_cmp x.members.first.high y.members.first.high)
    (ordering_then (nat_cmp x.members.second.low y.members.second.low)
    (ordering_then (nat_cmp x.members.second.high y.members.second.high)
    (ordering_then (nat_cmp x.members.third.low y.members.third.low)
    (ordering_then (nat_cmp x.members.third.high y.members.third.high) o))))))) (then_equal (nat_cmp x.asker y.asker))

-- asks with the same words are the same
pub same_ask : (x y : Ask) → ask_words x ≡ ask_words y → x ≡ y
same_ask x y same =
    let key : x.key ≡ y.key = cc in
    let first : x.members.first.low ≡ y.members.first.low = cc in
    let first_high : x.members.first.high ≡ y.members.first.high = cc in
    let second : x.members.second.low ≡ y.members.second.low = cc in
    let second_high : x.members.second.high ≡ y.members.second.high = cc in
    let third : x.members.third.low ≡ y.members.third.low = cc in
    let third_high : x.members.third.high ≡ y.members.third.high = cc in
    let asker : x.asker ≡ y.asker = cc in
    λ i. record {
      key = key i;
      members = record {
        first = record { low = first i; high = first_high i };
        second = record { low = second i; high = second_high i };
        third = record { low = third i; high = third_high i };
      };
      asker = asker i;
    }

-- an ask's words fit 64 bits
pub ask_fits : (x : Ask) → IsAsk x → All (λ word. word < 2 ^ 64) (ask_words x)
ask_fits x a zero d b = pointer_fits x.key (inl a.form.key_is)
ask_fits x a (suc zero) d b = pointer_fits x.members.first.low a.form.first_is.low_is
ask_fits x a (suc (suc zero)) d b = pointer_fits x.members.first.high a.form.first_is.high_is
ask_fits x a (suc (suc (suc zero))) d b = pointer_fits x.members.second.low a.form.second_is.low_is
ask_fits x a (suc (suc (suc (suc zero)))) d b = pointer_fits x.members.second.high a.form.second_is.high_is
ask_fits x a (suc (suc (suc (suc (suc zero))))) d b = pointer_fits x.members.third.low a.form.third_is.low_is
ask_fits x a (suc (suc (suc (suc (suc (suc zero)))))) d b = pointer_fits x.members.third.high a.form.third_is.high_is
ask_fits x a (suc (suc (suc (suc (suc (suc (suc zero))))))) d b = a.form.asker_fits
ask_fits x a (suc (suc (suc (suc (suc (suc (suc (suc k)))))))) d b = absurd (omega (arith, b))
