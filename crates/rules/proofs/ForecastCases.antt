-- L8: the figures of Listing A, of a run on two pages and of one with jobs (L9), computed on what a forecast keeps. Rests on Foretold. Assumes nothing.
use mathlib.Core.Path.{◌≡◌, refl, ◌∙◌}
use Rattle.rules.specs.State.{mainframe}
use Rattle.rules.specs.InOrder.{counts_in_range, in_range}
use Rattle.rules.specs.Opening.{opening_refusal, opened}
use Rattle.rules.specs.Forecast.{bare, own_for, forecast_refusal, dirty_for, closed_for, marks_for, written_for, round_for, collected_for, completed_for, barrier_for, forecast_after, forecast_next, opened_for, run_figures, forecast_figures}
use Rattle.rules.specs.Bench.{mainframe_with, listing, listing_figures, two_pages, two_pages_figures, jobs_forecast, jobs_figures}
use Rattle.rules.proofs.runs.Listing.{start}
use Rattle.rules.proofs.Foretold.{forecast_is_the_run}

listing_forecast : forecast_figures mainframe (opened_for mainframe (mainframe_with 2 1 1)) listing ≡ listing_figures
unfolding start listing listing_figures bare own_for forecast_refusal dirty_for closed_for marks_for written_for round_for collected_for completed_for barrier_for forecast_after forecast_next opened_for forecast_figures
listing_forecast = refl

two_pages_forecast : forecast_figures mainframe (opened_for mainframe (mainframe_with 2 2 1)) two_pages ≡ two_pages_figures
unfolding start two_pages two_pages_figures bare own_for forecast_refusal dirty_for closed_for marks_for written_for round_for collected_for completed_for barrier_for forecast_after forecast_next opened_for forecast_figures
two_pages_forecast = refl

jobs_forecast_lem : forecast_figures mainframe (opened_for mainframe (mainframe_with 2 1 1)) jobs_forecast ≡ jobs_figures
unfolding start jobs_forecast jobs_figures bare own_for forecast_refusal dirty_for closed_for marks_for written_for round_for collected_for completed_for barrier_for forecast_after forecast_next opened_for forecast_figures
jobs_forecast_lem = refl

-- the run has them
pub listing_figures_lem : run_figures mainframe (opened mainframe (mainframe_with 2 1 1)) listing ≡ listing_figures
listing_figures_lem = forecast_is_the_run mainframe (record { first = 0; counts = mainframe_with 2 1 1; rest = 0 }) (unfold opening_refusal counts_in_range in_range mainframe in refl) listing ∙ listing_forecast

pub two_pages_figures_lem : run_figures mainframe (opened mainframe (mainframe_with 2 2 1)) two_pages ≡ two_pages_figures
two_pages_figures_lem = forecast_is_the_run mainframe (record { first = 0; counts = mainframe_with 2 2 1; rest = 0 }) (unfold opening_refusal counts_in_range in_range mainframe in refl) two_pages ∙ two_pages_forecast

pub jobs_figures_lem : run_figures mainframe (opened mainframe (mainframe_with 2 1 1)) jobs_forecast ≡ jobs_figures
jobs_figures_lem = forecast_is_the_run mainframe (record { first = 0; counts = mainframe_with 2 1 1; rest = 0 }) (unfold opening_refusal counts_in_range in_range mainframe in refl) jobs_forecast ∙ jobs_forecast_lem
