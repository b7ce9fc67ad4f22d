-- `close_run` meets its contract: the middle is cleared and the bits left over are stowed, unless an error stands. Assumes nothing.
use borrow.Author.Rules.{rules}
use mathlib.Core.Path.{◌≡◌, sym, ◌∙◌}
use native.Mathlib.Omega.{arith}
use mir.Syntax.{w32}
use mir.Val.{SFits}
use Rattle.entcode.specs.Flat.{Out, out, err_of}
use Rattle.entenc_finish_close.proofs.Closing.{error_none, error_some, middle, close_failed, close_whole, close_stowed}
use Rattle.entenc_finish_close.proofs.close_run.Statement.{statement}
use Rattle.entenc_finish_close.proofs.close_run.Tie as tie

-- the error fits its type
error_fits : (c : tie.Start) → SFits w32 c.args.w.error
error_fits c = search rules

-- where the middle is cleared
abbrev begun : tie.After-clear → tie.Start
begun c = c.before.before.before.before.before.before.before.before

abbrev start : tie.After-clear → Out
start c = out (begun c).args.buf.now (begun c).args.w

good : (c : tie.After-clear) → err_of (start c).state.error ≡ 0
good c = error_none (start c).state.error (error_fits (begun c)) c.if-w-eq0.true

stow_run_requires : tie.Need-stow_run-requires
stow_run_requires c κs =
    let a = c.before.before.before.before.before in
    let p = (begun a).requires.0 in
    let n = a.clear.auto.buf in (
      record {
        roomy =
            record {
              fair = record { kept = p.roomy.fair.kept ∙ sym n; rem = p.roomy.fair.rem; error = p.roomy.fair.error };
              short = omega (arith, n, p.roomy.short);
              within = omega (arith, n, p.roomy.within);
            };
        err = p.err;
        used = p.used;
        slim = p.slim;
      },
      (begun a).requires.1,
    )

returns : tie.Need-returns-then-w-gt0
returns c =
    let a = c.before.before.before.before.before.before.before.before in
    let o = start a in
    let u : o.state.wbits ≡ 0 → ⊥ = λ e. omega (arith, c.if-w-gt0.true) in
    let m = a.clear.ensures ∙ middle o (begun a).requires.0.roomy.fair in
    c.stow_run.ensures ∙ close_stowed o (begun a).args.j _ m (good a) u

returns_2 : tie.Need-returns-else-w-gt0
returns_2 c =
    let a = c.before.before.before.before in
    let o = start a in
    let f = (begun a).requires.0.roomy.fair in
    let u : o.state.wbits ≡ 0 = omega (arith, c.if-w-gt0.false) in
    close_whole o (begun a).args.j _ f a.clear.auto.buf (a.clear.ensures ∙ middle o f) (good a) u

returns_3 : tie.Need-returns-else-w-eq0
returns_3 c =
    let b = c.before.before.before.before in
    let o = out b.args.buf.now b.args.w in
    let f = b.requires.0.roomy.fair in
    close_failed o b.args.j f (error_some b.args.w.error f.error c.if-w-eq0.false)

pub close_run_spec : {M : Type 1} → statement M
close_run_spec =
    tie.close
    (tie.spec
    (λ c. search rules) (λ c. search rules) (λ c. search rules) (λ c κs. search rules) stow_run_requires
    (λ c. search rules) returns (λ c. search rules) returns_2 returns_3)
