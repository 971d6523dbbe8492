mod Environments
