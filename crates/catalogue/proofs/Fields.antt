-- What the bytes of an entry read as.
use Rattle.std.proofs.Common.{◌≡◌, ℕ, ◌<◌, ◌^◌, List, [], take, drop, get_or, replicate, refl, sym, subst, ◌∙◌, arith}
use Rattle.std.proofs.lemmas.List.{take_at}
use Rattle.byteorder.specs.Endian.{big_number}
use Rattle.byteorder.specs.Numbers.{big_number-reads_back}
use Rattle.catalogue.specs.declared.layout.Entry.{Entry}
use Rattle.catalogue.specs.Entries.{entry_bytes, Fits}

-- the fields of an entry are those at their places among its bytes
pub record ReadsAs (e : Entry) (bytes : List ℕ) : Type 0 where
  pub number : e.number ≡ big_number 4 (take 4 (drop 0 bytes))
  pub kind : e.kind ≡ get_or bytes 4 0
  pub answer : e.answer ≡ get_or bytes 5 0
  pub name_len : e.name_len ≡ get_or bytes 6 0
  pub count : e.count ≡ big_number 8 (take 8 (drop 8 bytes))
  pub turns : e.turns ≡ big_number 8 (take 8 (drop 16 bytes))
  pub parts : e.parts ≡ big_number 8 (take 8 (drop 24 bytes))
  pub name : e.name ≡ take 63 (drop 32 bytes)

pub reads_own : (e : Entry) → Fits e → ReadsAs e (entry_bytes e)
unfolding entry_bytes
reads_own e fits = record {
  number = sym (big_number-reads_back 4 e.number [] (let small : e.number < 2 ^ 32 = fits.number in omega arith));
  kind = refl;
  answer = refl;
  name_len = refl;
  count = sym (big_number-reads_back 8 e.count [] (let small : e.count < 2 ^ 64 = fits.count in omega arith));
  turns = sym (big_number-reads_back 8 e.turns [] (let small : e.turns < 2 ^ 64 = fits.turns in omega arith));
  parts = sym (big_number-reads_back 8 e.parts [] (let small : e.parts < 2 ^ 64 = fits.parts in omega arith));
  name = sym (take_at e.name (replicate 33 0) 63 fits.name);
}

pub entry_reads : (e : Entry) (bytes : List ℕ) → Fits e → entry_bytes e ≡ bytes → ReadsAs e bytes
entry_reads e bytes fits same = subst (ReadsAs e) same (reads_own e fits)

-- entries of the same fields are one
pub same_fields : (e f : Entry) → e.number ≡ f.number → e.kind ≡ f.kind → e.answer ≡ f.answer → e.count ≡ f.count → e.turns ≡ f.turns → e.parts ≡ f.parts → e.name_len ≡ f.name_len → e.name ≡ f.name → e ≡ f
same_fields e f number kind answer count turns parts name_len name = λ i. record {
  number = number i;
  kind = kind i;
  answer = answer i;
  count = count i;
  turns = turns i;
  parts = parts i;
  name_len = name_len i;
  name = name i;
}

-- entries of the same bytes are one
pub same_entry : (a b : Entry) → Fits a → Fits b → entry_bytes a ≡ entry_bytes b → a ≡ b
same_entry a b first second same =
    let own = reads_own a first in
    let other = entry_reads b (entry_bytes a) second (sym same) in
    same_fields a b (own.number ∙ sym other.number) (own.kind ∙ sym other.kind) (own.answer ∙ sym other.answer) (own.count ∙ sym other.count) (own.turns ∙ sym other.turns) (own.parts ∙ sym other.parts) (own.name_len ∙ sym other.name_len) (own.name ∙ sym other.name)
