use Rattle.std.proofs.Common.{refl, sym, []}
use Rattle.pf_text.proofs.SpecificationLemmas.{bytes_none}
use Rattle.pf_posix.proofs.HaltLemmas.{may_be_numbered, may_be_unnumbered, position_missing, position_mixed, position_open, position_over}
use Rattle.pf_posix.proofs.PartLemmas.{first_width, number_missing, position_read}
use Rattle.pf_posix.proofs.specifications.position_at.Goals as goal

pub returns-in-Numbered-clause-halt : goal.returns-in-Numbered-clause-halt
returns-in-Numbered-clause-halt c = λ begin h.
    let number = c.number_at-number in
    position_missing c.args.text.now c.args.start begin c.args.numbering h number.result.1 c.stray_at.result (rw c.in_default.is at number.ensures.bytes)
    (rw c.in_default.is at number.ensures.ended) c.requires.other c.requires.errno c.in-Numbered.is c.stray_at.ensures

pub returns-in_default-numbering : goal.returns-in_default-numbering
returns-in_default-numbering c =
    let t = c.args.text.now in
    let start = c.args.start in
    let number = c.number_at-number in
    let bytes = rw c.in_default.is at number.ensures.bytes in
    let ended = rw c.in_default.is at number.ensures.ended in
    record {
      bytes = ([], refl, bytes_none t start c.requires.within);
      follows = may_be_unnumbered c.args.numbering c.in_default-numbering.not-Numbered;
      first = λ none. number_missing t start number.result.1 bytes ended;
      halt = tt;
      early = tt;
    }

pub returns-then-has_digit-clause-halt : goal.returns-then-has_digit-clause-halt
returns-then-has_digit-clause-halt c = λ begin h.
    let number = c.number_at-number in
    let digit = c.if-has_digit.ensures in
    position_over c.args.text.now c.args.start begin c.args.numbering h c.in-Some.number number.result.1 (rw c.in-Some.is at number.ensures.bytes)
    (rw c.in-Some.is at number.ensures.some) (rw c.in-Some.is at number.ensures.small)
    (rw c.in-Some.is at number.ensures.ended) c.refusal.result c.refusal.ensures
    (digit.within refl) (sym digit.same)

pub returns-in-Unnumbered-clause-halt : goal.returns-in-Unnumbered-clause-halt
returns-in-Unnumbered-clause-halt c = λ begin h.
    let number = c.number_at-number in
    let dollar = c.if-has_byte.ensures in
    position_mixed c.args.text.now c.args.start begin c.args.numbering h c.in-Some.number number.result.1 (rw c.in-Some.is at number.ensures.bytes)
    (rw c.in-Some.is at number.ensures.some) (rw c.in-Some.is at number.ensures.small) (rw c.in-Some.is at number.ensures.ended) c.refusal-in-Unnumbered.result
    c.refusal-in-Unnumbered.ensures (dollar.within refl) (sym dollar.same) c.in-Unnumbered.is

pub returns-in_default-numbering-2 : goal.returns-in_default-numbering-2
returns-in_default-numbering-2 c =
    let number = c.number_at-number in
    let dollar = c.if-has_byte.ensures in
    let read = position_read c.args.text.now c.args.start c.in-Some.number number.result.1 (rw c.in-Some.is at number.ensures.bytes)
    (rw c.in-Some.is at number.ensures.some) (rw c.in-Some.is at number.ensures.small) (rw c.in-Some.is at number.ensures.ended)
    (dollar.within refl) (sym dollar.same) in
    record {
      bytes = read;
      follows = may_be_numbered c.args.numbering c.in-Some.number c.in_default-numbering-2.not-Unnumbered;
      first = λ none. cc;
      halt = tt;
      early = tt;
    }

pub returns-in-Numbered-numbering-clause-halt : goal.returns-in-Numbered-numbering-clause-halt
returns-in-Numbered-numbering-clause-halt c = λ begin h.
    let number = c.number_at-number in
    position_open c.args.text.now c.args.start begin c.args.numbering h c.in-Some.number number.result.1 (rw c.in-Some.is at number.ensures.bytes)
    (rw c.in-Some.is at number.ensures.some) (rw c.in-Some.is at number.ensures.small)
    (rw c.in-Some.is at number.ensures.ended) c.stray_at-in-Numbered-numbering.result
    c.stray_at-in-Numbered-numbering.ensures (sym c.if-has_digit.ensures.same) (sym c.if-has_byte.ensures.same) c.in-Numbered-numbering.is

pub returns-in_default-numbering-3 : goal.returns-in_default-numbering-3
returns-in_default-numbering-3 c =
    let t = c.args.text.now in
    let start = c.args.start in
    let number = c.number_at-number in
    record {
      bytes = ([], refl, bytes_none t start c.requires.within);
      follows = may_be_unnumbered c.args.numbering c.in_default-numbering-3.not-Numbered;
      first = λ none. first_width t start c.in-Some.number number.result.1 (rw c.in-Some.is at number.ensures.bytes) (rw c.in-Some.is at number.ensures.some)
          (rw c.in-Some.is at number.ensures.small) (rw c.in-Some.is at number.ensures.ended) (sym c.if-has_digit.ensures.same)
          (sym c.if-has_byte.ensures.same);
      halt = tt;
      early = tt;
    }
