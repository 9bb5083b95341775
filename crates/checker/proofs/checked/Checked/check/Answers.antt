use Rattle.std.proofs.Common.{◌≡◌, cond, is_ok, Ok, Err, sym, refl, ap, ◌∙◌}
use Rattle.std.proofs.lemmas.Result.{err_from_is_err_and}
use Rattle.table.specs.Tabled.{bytes_of}
use Rattle.checker.specs.Checking.{check_of}
use Rattle.checker.specs.Described.{program_of}
use Rattle.checker.proofs.Checking.{check-refused, check-judged, exactly, first, ruled, read_held}
use Rattle.checker.proofs.checked.Checked.check.Goals as goal

pub returns-in_err-read : goal.returns-in_err-read
returns-in_err-read c =
    let p = err_from_is_err_and c.from_residual.result c.from_residual.ensures.1 in
    let v : c.from_residual.result ≡ check_of c.args.bytes.now = p.1 ∙ ap Err p.2 ∙ check-refused c.args.bytes.now c.in_err-read.field-0.0 c.in_err-read.ensures.value in
    record {
      value = v;
      after = ap (λ r. cond (is_ok r) c.args.bytes.now (bytes_of c.args.self.now.table)) (sym p.1);
      same = λ f e. refl;
      exactly = exactly c.args.bytes.now c.from_residual.result v;
      first = first c.args.bytes.now c.from_residual.result v;
      ruled = ruled c.args.bytes.now c.from_residual.result v;
    }

pub returns-in_err-bodies : goal.returns-in_err-bodies
returns-in_err-bodies c =
    let p = err_from_is_err_and c.from_residual-in_err-bodies.result c.from_residual-in_err-bodies.ensures.1 in
    let v : c.from_residual-in_err-bodies.result ≡ check_of c.args.bytes.now = p.1 ∙ ap Err p.2 ∙ check-judged c.args.bytes.now c.read.new.self (program_of c.from.result) (Err c.in_err-bodies.field-0.0) (read_held c.args.bytes.now (bytes_of c.read.new.self) _ _ c.in_ok-read.ensures.value c.in_ok-read.ensures.after) c.from.ensures c.in_err-bodies.ensures.value in
    record {
      value = v;
      after = ap (λ r. cond (is_ok r) c.args.bytes.now (bytes_of c.args.self.now.table)) (sym p.1);
      same = λ f e. refl;
      exactly = exactly c.args.bytes.now c.from_residual-in_err-bodies.result v;
      first = first c.args.bytes.now c.from_residual-in_err-bodies.result v;
      ruled = ruled c.args.bytes.now c.from_residual-in_err-bodies.result v;
    }

pub returns : goal.returns
returns c =
    let v : Ok tt ≡ check_of c.args.bytes.now = check-judged c.args.bytes.now c.read.new.self (program_of c.from.result) (Ok tt) (read_held c.args.bytes.now (bytes_of c.read.new.self) _ _ c.in_ok-read.ensures.value c.in_ok-read.ensures.after) c.from.ensures c.in_ok-bodies.ensures.value in
    record {
      value = v;
      after = (read_held c.args.bytes.now (bytes_of c.read.new.self) _ _ c.in_ok-read.ensures.value c.in_ok-read.ensures.after);
      same = λ f e. cc;
      exactly = exactly c.args.bytes.now (Ok tt) v;
      first = first c.args.bytes.now (Ok tt) v;
      ruled = ruled c.args.bytes.now (Ok tt) v;
    }
