use Rattle.std.proofs.Common.{◌≡◌, ◌⊎◌, None, vec_items, ap, sym, ◌∙◌, inl, inr}
use Rattle.hex.specs.declared.error.FromHexError.TheVariants.{OutOfMemory}
use Rattle.spelling.proofs.Decoded.{digits_read, fault_reads, others_read}
use Rattle.spelling.proofs.bytes.read_bytes.Goals as goal
use Rattle.spelling.specs.Hex.{bytes}
use Rattle.std.specs.Result.{result_ok}

pub returns-in_err-decode-in_default-2 : goal.returns-in_err-decode-in_default-2
returns-in_err-decode-in_default-2 c =
    let word = c.args.word.now in
    let e = c.in_err-decode-in_default-2.field-0.0 in
    let why : (e ≡ OutOfMemory) ⊎ (bytes word ≡ None) = elim c.in_err-decode-in_default-2.ensures.err [
      | inl memory ↦ inl memory
      | inr wrong ↦ inr (digits_read word c.in_default.not-text c.in_default.not-empty ∙ ap result_ok wrong)
    ] in
    fault_reads vec_items (bytes word) e c.from_residual.result c.from_residual.ensures.1 why

pub returns-in_ok-decode-in_default-2 : goal.returns-in_ok-decode-in_default-2
returns-in_ok-decode-in_default-2 c =
    digits_read c.args.word.now c.in_default.not-text c.in_default.not-empty ∙ ap result_ok c.in_ok-decode-in_default-2.ensures.ok

pub returns-in_default : goal.returns-in_default
returns-in_default c = others_read c.args.word.now c.in_default.not-text c.in_default.not-empty (sym c.has_digits_alone.ensures ∙ c.if-not-has_digits_alone.true)
